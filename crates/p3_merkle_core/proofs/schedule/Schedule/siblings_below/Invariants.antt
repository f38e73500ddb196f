use Rattle.std.proofs.Common.{◌≡◌}
use Rattle.p3_merkle_core.specs.Geometry.{shape_of}
use Rattle.p3_merkle_core.specs.Checks.{siblings_below}
use Rattle.p3_merkle_core.proofs.schedule.Schedule.siblings_below.Given as goal

abbrev pub invariant-loop-level : goal.invariant-loop-level
invariant-loop-level l = l.count ≡ siblings_below (shape_of l.self.arity l.self.dimensions.now) l.level
