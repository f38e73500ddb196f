-- The derived test: row sets, then digests.
use Rattle.std.specs.Cmp.Lexicographic.{pointwise_decides}
use Rattle.p3_merkle_core.specs.Views.{shown_pruned}
use Rattle.p3_merkle_core.proofs.Lists.ViewFacts.{both_parts, same_sets}
use Rattle.p3_merkle_core.proofs.laws.pruned_batch_opening_eq.Goals as goal

pub returns : goal.returns
returns g c =
    let words = g.met.P.PackedValue.eq_is_equality in
    let digests = pointwise_decides g.met.PW.PackedValue.eq_is_equality in
    let a = c.args.a.now in
    let b = c.args.b.now in
    rw c.eq.ensures (both_parts _ _ (shown_pruned a) (shown_pruned b)
    (same_sets words a.opened_values.items b.opened_values.items)
    (pointwise_decides digests a.pruned_proof.sibling_hashes.items b.pruned_proof.sibling_hashes.items))
