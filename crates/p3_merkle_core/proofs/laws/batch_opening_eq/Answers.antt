-- The derived test: rows, then siblings.
use Rattle.std.specs.Cmp.Lexicographic.{pointwise_decides}
use Rattle.p3_merkle_core.specs.Views.{shown_opening}
use Rattle.p3_merkle_core.proofs.Lists.ViewFacts.{both_parts, same_rows}
use Rattle.p3_merkle_core.proofs.laws.batch_opening_eq.Goals as goal

pub returns : goal.returns
returns g c =
    let words = g.met.P.PackedValue.eq_is_equality in
    let digests = pointwise_decides g.met.PW.PackedValue.eq_is_equality in
    let a = c.args.a.now in
    let b = c.args.b.now in
    rw c.eq.ensures (both_parts _ _ (shown_opening a) (shown_opening b)
    (same_rows words a.opened_values.items b.opened_values.items)
    (pointwise_decides digests a.opening_proof.items b.opening_proof.items))
