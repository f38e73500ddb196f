-- Rows and salts by themselves, then the plain check of rows followed by their salts.
use Rattle.std.proofs.Common.{◌∙◌, ap, arith, inr, sym}
use Rattle.std.proofs.lemmas.List.{length-map}
use Rattle.std.proofs.lemmas.Result.{err_from_is_err_and}
use Rattle.p3_support.specs.Batches.{widened}
use Rattle.p3_support.specs.Shown.{roots_of, row_lists, row_sets}
use Rattle.p3_merkle_core.specs.Geometry.{shape_of}
use Rattle.p3_merkle_core.specs.Pruning.{pruned_of}
use Rattle.p3_merkle_tree.specs.HidingSchemes.{plain_of, salted_pruned_borrowed}
use Rattle.p3_merkle_tree.specs.Schemes.{cap_layer_of, functions_of}
use Rattle.p3_merkle_tree.proofs.SaltedAlone.{verdict_alone}
use Rattle.p3_merkle_core.proofs.Pruned.Refused.{handed, refuses_so, unrefused_so}
use Rattle.p3_merkle_tree.specs.SaltRefusals.{salted_sets_refusal}
use Rattle.p3_merkle_tree.specs.SaltedOpenings.{salted_sets}
use Rattle.p3_merkle_tree.proofs.ExtractedFacts.{answer_of, several, verdict_joined, verdict_refused}
use Rattle.p3_merkle_tree.proofs.hiding_open.MerkleTreeHidingMmcs+P+PW+H+C+R+N+D+SALT_ELEMS.verify_multi_batch.Goals as goal

pub returns-in_err-check_salted_sets-clause-verdict : goal.returns-in_err-check_salted_sets-clause-verdict
returns-in_err-check_salted_sets-clause-verdict g c =
    let ds = c.args.dimensions.now in
    let at = several c.args.self.now ds (roots_of c.args.commit.now) g.met.P.PackedValue.eq_is_equality
    g.met.PW.PackedValue.eq_is_equality in
    let o = salted_pruned_borrowed c.args.indices.now c.args.rows.now c.args.proof.now in
    let salts = ap row_sets c.deref.ensures.value in
    let r = c.from_residual.result in
    let left = err_from_is_err_and r c.from_residual.ensures.1 in
    verdict_refused at o r c.from_residual.ensures.0 (answer_of r left.0 (at.before o) left.1
    (inr (sym (λ i. salted_sets_refusal g.row.SALT_ELEMS ds o.rows (salts i))
    ∙ rw left.2 c.in_err-check_salted_sets.ensures.answer)))

pub returns-clause-verdict : goal.returns-clause-verdict
returns-clause-verdict g c =
    let ds = c.args.dimensions.now in
    let at = several c.args.self.now ds (roots_of c.args.commit.now) g.met.P.PackedValue.eq_is_equality
    g.met.PW.PackedValue.eq_is_equality in
    let o = salted_pruned_borrowed c.args.indices.now c.args.rows.now c.args.proof.now in
    let salts = ap row_sets c.deref.ensures.value in
    let read = ap row_sets c.deref-2.ensures.value in
    verdict_joined at o c.deref-3.result.now
    (pruned_of c.args.indices.now (salted_sets o.rows (row_sets c.deref-2.result.now)) c.deref-4.result.now)
    (record {
      none = sym (λ i. salted_sets_refusal g.row.SALT_ELEMS ds o.rows (salts i))
          ∙ c.in_ok-check_salted_sets.ensures.answer;
      is_wide = c.deref-3.ensures.value ∙ c.in_ok-wider.ensures;
      is = λ i. pruned_of o.indices (salted_sets o.rows (read i)) (c.deref-4.ensures.value i);
    }) c.verify_row_sets.result (rw c.roots.ensures at c.verify_row_sets.ensures.verdict.answer)

pub returns-in_err-check_salted_sets-clause-single : goal.returns-in_err-check_salted_sets-clause-single
returns-in_err-check_salted_sets-clause-single g c one many too =
    let plain = plain_of c.args.self.now in
    let ds = c.args.dimensions.now in
    let s = shape_of g.row.N (widened g.row.SALT_ELEMS ds) in
    verdict_alone (functions_of plain) s (cap_layer_of plain s) (roots_of c.args.commit.now) plain.arity (omega arith)
    g.row.SALT_ELEMS ds g.P.Value.PartialEq.eq g.PW.Value.PartialEq.eq
    (salted_pruned_borrowed c.args.indices.now c.args.rows.now c.args.proof.now) c.from_residual.result one
    (length-map c.args.rows.now (λ rows. row_lists rows.items) ∙ many)
    (length-map c.args.proof.now.0.items (λ rows. row_lists rows.items) ∙ too)
    (returns-in_err-check_salted_sets-clause-verdict g c)

pub returns-clause-single : goal.returns-clause-single
returns-clause-single g c one many too =
    let plain = plain_of c.args.self.now in
    let ds = c.args.dimensions.now in
    let s = shape_of g.row.N (widened g.row.SALT_ELEMS ds) in
    verdict_alone (functions_of plain) s (cap_layer_of plain s) (roots_of c.args.commit.now) plain.arity (omega arith)
    g.row.SALT_ELEMS ds g.P.Value.PartialEq.eq g.PW.Value.PartialEq.eq
    (salted_pruned_borrowed c.args.indices.now c.args.rows.now c.args.proof.now) c.verify_row_sets.result one
    (length-map c.args.rows.now (λ rows. row_lists rows.items) ∙ many)
    (length-map c.args.proof.now.0.items (λ rows. row_lists rows.items) ∙ too) (returns-clause-verdict g c)

pub returns-in_err-check_salted_sets-clause-checked : goal.returns-in_err-check_salted_sets-clause-checked
returns-in_err-check_salted_sets-clause-checked g c =
    let ds = c.args.dimensions.now in
    let o = salted_pruned_borrowed c.args.indices.now c.args.rows.now c.args.proof.now in
    let salts = ap row_sets c.deref.ensures.value in
    let refusal = salted_sets_refusal g.row.SALT_ELEMS ds o.rows o.salts in
    let e = c.in_err-check_salted_sets.field-0.0 in
    handed c.from_residual.result e refusal c.from_residual.ensures.1 (refuses_so refusal e
    (sym (λ i. salted_sets_refusal g.row.SALT_ELEMS ds o.rows (salts i)) ∙ c.in_err-check_salted_sets.ensures.answer))

pub returns-in_err-wider-clause-checked : goal.returns-in_err-wider-clause-checked
returns-in_err-wider-clause-checked g c =
    let ds = c.args.dimensions.now in
    let o = salted_pruned_borrowed c.args.indices.now c.args.rows.now c.args.proof.now in
    let salts = ap row_sets c.deref.ensures.value in
    unrefused_so c.from_residual-in_err-wider.result (salted_sets_refusal g.row.SALT_ELEMS ds o.rows o.salts)
    (sym (λ i. salted_sets_refusal g.row.SALT_ELEMS ds o.rows (salts i)) ∙ c.in_ok-check_salted_sets.ensures.answer)

pub returns-clause-checked : goal.returns-clause-checked
returns-clause-checked g c =
    let ds = c.args.dimensions.now in
    let o = salted_pruned_borrowed c.args.indices.now c.args.rows.now c.args.proof.now in
    let salts = ap row_sets c.deref.ensures.value in
    unrefused_so c.verify_row_sets.result (salted_sets_refusal g.row.SALT_ELEMS ds o.rows o.salts)
    (sym (λ i. salted_sets_refusal g.row.SALT_ELEMS ds o.rows (salts i)) ∙ c.in_ok-check_salted_sets.ensures.answer)
