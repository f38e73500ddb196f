use Rattle.std.proofs.Common.{◌≡◌}
use Rattle.p3_merkle_core.specs.Geometry.{shape_of, layer_exponent}
use Rattle.p3_merkle_core.proofs.schedule.Schedule.layer_exponent.Given as goal

abbrev pub invariant-loop-level : goal.invariant-loop-level
invariant-loop-level l = l.exponent ≡ layer_exponent (shape_of l.self.arity l.self.dimensions.now) l.level
