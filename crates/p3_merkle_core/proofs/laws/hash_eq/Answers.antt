-- The derived test compares the digests word by word.
use Rattle.std.specs.Cmp.Lexicographic.{pointwise_decides}
use Rattle.p3_support.specs.Shown.{digest_of_ref}
use Rattle.p3_merkle_core.proofs.laws.hash_eq.Goals as goal

pub returns : goal.returns
returns g c =
    rw c.eq.ensures (pointwise_decides g.met.PW.PackedValue.eq_is_equality (digest_of_ref c.args.a.now)
    (digest_of_ref c.args.b.now))
