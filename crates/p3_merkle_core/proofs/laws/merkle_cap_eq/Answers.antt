-- The derived test compares the digests one by one.
use Rattle.std.specs.Cmp.Lexicographic.{pointwise_decides}
use Rattle.p3_support.specs.Shown.{roots_of}
use Rattle.p3_merkle_core.proofs.laws.merkle_cap_eq.Goals as goal

pub returns : goal.returns
returns g c =
    let digests = pointwise_decides g.met.PW.PackedValue.eq_is_equality in
    rw c.eq.ensures (pointwise_decides digests (roots_of c.args.a.now) (roots_of c.args.b.now))
