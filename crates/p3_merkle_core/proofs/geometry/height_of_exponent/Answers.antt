use Rattle.std.proofs.Common.{arith}
use Rattle.p3_merkle_core.proofs.Shapes.LeastFacts.{exponent_le}
use Rattle.p3_merkle_core.proofs.geometry.height_of_exponent.Goals as goal

pub overflow_shr-result : goal.overflow_shr-result
overflow_shr-result c = omega (arith, exponent_le c.args.max_height 62 c.requires)
