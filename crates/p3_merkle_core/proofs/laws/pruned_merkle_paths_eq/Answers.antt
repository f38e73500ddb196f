-- The derived test, which is that of the digests.
use Rattle.std.specs.Cmp.Lexicographic.{pointwise_decides}
use Rattle.p3_merkle_core.proofs.laws.pruned_merkle_paths_eq.Goals as goal

pub returns : goal.returns
returns g c =
    let is = pointwise_decides g.met.PW.PackedValue.eq_is_equality in
    rw c.eq.ensures (pointwise_decides is c.args.a.now.sibling_hashes.items c.args.b.now.sibling_hashes.items)
