use Rattle.std.proofs.Common.{◌≡◌}
use Rattle.p3_merkle_core.specs.Geometry.{shape_of, schedule_below}
use Rattle.p3_merkle_core.proofs.schedule.Schedule.schedule_below.Given as goal

-- the steps so far, and the capacity for the others
abbrev pub invariant-loop-level : goal.invariant-loop-level
invariant-loop-level l = record {
  so_far : l.schedule.items ≡ schedule_below (shape_of l.self.arity l.self.dimensions.now) l.level;
  count : l.schedule.len ≡ l.level;
  capacity : l.schedule.cap ≡ l.layer;
}
