use Rattle.std.proofs.Common.{◌≡◌}
use Rattle.p3_merkle_core.specs.Geometry.{shape_of, ancestor, positions_below}
use Rattle.p3_merkle_core.proofs.schedule.Schedule.positions_below.Given as goal

-- the ancestor on the level, the places so far, and the capacity for the others
abbrev pub invariant-loop-level : goal.invariant-loop-level
invariant-loop-level l = record {
  place : l.ancestor ≡ ancestor (shape_of l.self.arity l.self.dimensions.now) l.level l.index;
  so_far : l.positions.items ≡ positions_below (shape_of l.self.arity l.self.dimensions.now) l.level l.index;
  count : l.positions.len ≡ l.level;
  capacity : l.positions.cap ≡ l.layer;
}
