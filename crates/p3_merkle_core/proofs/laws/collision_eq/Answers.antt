-- Equality of words is equality of values, and so is that of digests.
use Rattle.std.specs.Cmp.Lexicographic.{pointwise_decides}
use Rattle.p3_merkle_core.proofs.laws.collision_eq.Goals as goal

pub returns : goal.returns
returns g c = c.input_pair_eq.ensures g.met.P.PackedValue.eq_is_equality
    (pointwise_decides g.met.PW.PackedValue.eq_is_equality)
