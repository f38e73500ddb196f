-- The answer is that of the row sets and the digests. An opening of one index is accepted as the one with its digests.
use Rattle.std.proofs.Common.{◌∙◌, arith, subst}
use Rattle.std.proofs.lemmas.List.{length-map}
use Rattle.p3_support.specs.Shown.{roots_of, row_lists, row_sets}
use Rattle.p3_merkle_core.specs.Geometry.{shape_of}
use Rattle.p3_merkle_core.specs.Presented.{IsVerdict}
use Rattle.p3_merkle_core.specs.Pruning.{pruned_of}
use Rattle.p3_merkle_core.specs.Refusals.{Refuses, pruned_early}
use Rattle.p3_merkle_core.specs.Views.{pruned_borrowed}
use Rattle.p3_merkle_core.proofs.Covered.Alone.{accepted_alone}
use Rattle.p3_merkle_tree.specs.Committed.{presented_pruned_under}
use Rattle.p3_merkle_tree.specs.Schemes.{cap_layer_of, functions_of}
use Rattle.p3_merkle_tree.proofs.pruned.MerkleTreeMmcs+P+PW+H+C+N+D.verify_batch_pruned.Goals as goal

pub returns-clause-verdict : goal.returns-clause-verdict
returns-clause-verdict g c =
    subst (λ p. IsVerdict p c.verify_row_sets.result)
    (λ i. presented_pruned_under c.args.self.now c.args.dimensions.now (c.roots.ensures i)
    (pruned_of c.args.indices.now (row_sets c.args.rows.now) (c.deref.ensures.value i)))
    c.verify_row_sets.ensures.verdict

pub returns-clause-single : goal.returns-clause-single
returns-clause-single g c one many =
    let scheme = c.args.self.now in
    let s = shape_of g.row.N c.args.dimensions.now in
    let verdict = returns-clause-verdict g c in
    let alone = accepted_alone (functions_of scheme) s (cap_layer_of scheme s) (roots_of c.args.commit.now)
    scheme.arity (omega arith) (pruned_borrowed c.args.indices.now c.args.rows.now c.args.proof.now) one
    (length-map c.args.rows.now (λ rows. row_lists rows.items) ∙ many) in
    record {
      ok_is_accepted = λ ok. alone.0 (verdict.ok_is_accepted ok);
      accepted_is_ok = λ accepted. verdict.accepted_is_ok (alone.1 accepted);
    }

pub returns-clause-checked : goal.returns-clause-checked
returns-clause-checked g c =
    subst (λ digests. Refuses c.verify_row_sets.result (pruned_early (shape_of g.row.N c.args.dimensions.now)
    (pruned_of c.args.indices.now (row_sets c.args.rows.now) digests))) c.deref.ensures.value
    c.verify_row_sets.ensures.checked
