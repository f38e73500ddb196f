-- Rows and salts by themselves, then the paths of rows followed by their salts.
use Rattle.std.proofs.Common.{◌∙◌, List, ap, inl, inr, subst, sym}
use Rattle.std.proofs.lemmas.Result.{err_from_is_err_and}
use Rattle.std.specs.Prelude.{◌≡◌, IfOk}
use Rattle.std.specs.Option.{option_or}
use Rattle.p3_support.specs.Shown.{row_sets}
use Rattle.p3_support.specs.declared.matrix.Dimensions.{Dimensions}
use Rattle.p3_merkle_core.specs.Geometry.{shape_of}
use Rattle.p3_merkle_core.specs.Pruning.{pruned_of, restored_paths}
use Rattle.p3_merkle_core.specs.Refusals.{AnswersUnlessMemory, pruned_refusal}
use Rattle.p3_merkle_core.specs.Views.{shown_paths}
use Rattle.p3_merkle_core.proofs.Pruned.Refused.{handed, refuses_so, unrefused_so}
use Rattle.p3_merkle_tree.specs.HidingSchemes.{plain_of, presented_to_restore, salted_params_of, salted_pruned_borrowed}
use Rattle.p3_merkle_tree.specs.SaltRefusals.{salted_sets_refusal}
use Rattle.p3_merkle_tree.specs.SaltedOpenings.{joined_sets, salted_sets}
use Rattle.p3_merkle_tree.specs.Schemes.{params_of}
use Rattle.p3_merkle_tree.proofs.ExtractedFacts.{answer_of, refused_before}
use Rattle.p3_merkle_tree.proofs.SaltedAnswers.{salted_restorable}
use Rattle.p3_merkle_tree.proofs.VerdictFacts.{verdict_by}
use Rattle.p3_merkle_tree.proofs.hiding_open.MerkleTreeHidingMmcs+P+PW+H+C+R+N+D+SALT_ELEMS.restore_and_recompute_paths.Goals as goal

pub returns-in_err-check_salted_sets-clause-verdict : goal.returns-in_err-check_salted_sets-clause-verdict
returns-in_err-check_salted_sets-clause-verdict g c =
    let ds = c.args.dimensions.now in
    let scheme = c.args.self.now in
    let k = salted_params_of scheme ds in
    let o = salted_pruned_borrowed c.args.indices.now c.args.rows.now c.args.proof.now in
    let salts = ap row_sets c.deref.ensures.value in
    let before = salted_sets_refusal g.row.SALT_ELEMS ds o.rows o.salts in
    let r = c.from_residual.result in
    let left = err_from_is_err_and r c.from_residual.ensures.1 in
    verdict_by (presented_to_restore scheme ds c.args.indices.now c.args.rows.now c.args.proof.now)
    (salted_restorable g.P.Value.PartialEq.eq g.row.SALT_ELEMS ds k.shape k.layer g.met.P.PackedValue.eq_is_equality o)
    r
    (refused_before r before (pruned_refusal g.P.Value.PartialEq.eq k.shape k.layer (joined_sets o))
    c.from_residual.ensures.0 (answer_of r left.0 before left.1
    (inr (sym (λ i. salted_sets_refusal g.row.SALT_ELEMS ds o.rows (salts i))
    ∙ rw left.2 c.in_err-check_salted_sets.ensures.answer))))

pub returns-in_err-wider-clause-verdict : goal.returns-in_err-wider-clause-verdict
returns-in_err-wider-clause-verdict g c =
    let ds = c.args.dimensions.now in
    let scheme = c.args.self.now in
    let k = salted_params_of scheme ds in
    let o = salted_pruned_borrowed c.args.indices.now c.args.rows.now c.args.proof.now in
    let r = c.from_residual-in_err-wider.result in
    let left = err_from_is_err_and r c.from_residual-in_err-wider.ensures.1 in
    let shown = presented_to_restore scheme ds c.args.indices.now c.args.rows.now c.args.proof.now in
    verdict_by shown
    (salted_restorable g.P.Value.PartialEq.eq g.row.SALT_ELEMS ds k.shape k.layer g.met.P.PackedValue.eq_is_equality o)
    r (answer_of r left.0 shown.refusal left.1 (inl left.2))

pub returns : goal.returns
returns g c =
    let ds = c.args.dimensions.now in
    let eq = g.P.Value.PartialEq.eq in
    let scheme = c.args.self.now in
    let k = salted_params_of scheme ds in
    let o = salted_pruned_borrowed c.args.indices.now c.args.rows.now c.args.proof.now in
    let salts = ap row_sets c.deref.ensures.value in
    let none = sym (λ i. salted_sets_refusal g.row.SALT_ELEMS ds o.rows (salts i))
    ∙ c.in_ok-check_salted_sets.ensures.answer in
    let wide = c.deref-3.ensures.value ∙ c.in_ok-wider.ensures in
    let alike = ap (λ (given : List Dimensions). params_of (plain_of scheme) (shape_of g.row.N given)) wide in
    let read = ap row_sets c.deref-2.ensures.value in
    let is : pruned_of c.args.indices.now (salted_sets o.rows (row_sets c.deref-2.result.now)) c.deref-4.result.now
    ≡ joined_sets o = λ i. pruned_of o.indices (salted_sets o.rows (read i)) (c.deref-4.ensures.value i) in
    let r = c.restore_row_sets.result in
    record {
      verdict = verdict_by (presented_to_restore scheme ds c.args.indices.now c.args.rows.now c.args.proof.now)
          (salted_restorable eq g.row.SALT_ELEMS ds k.shape k.layer g.met.P.PackedValue.eq_is_equality o) r
          (subst (AnswersUnlessMemory r)
          (λ i. option_or (sym none i) (pruned_refusal eq (alike i).shape (alike i).layer (is i)))
          c.restore_row_sets.ensures.verdict.answer);
      checked = unrefused_so r (salted_sets_refusal g.row.SALT_ELEMS ds o.rows o.salts) none;
      paths = subst (λ (ps : _). IfOk r (λ paths. shown_paths paths.items ≡ ps))
          (λ i. restored_paths (alike i) (is i)) c.restore_row_sets.ensures.paths;
    }

pub returns-in_err-check_salted_sets-clause-checked : goal.returns-in_err-check_salted_sets-clause-checked
returns-in_err-check_salted_sets-clause-checked g c =
    let ds = c.args.dimensions.now in
    let o = salted_pruned_borrowed c.args.indices.now c.args.rows.now c.args.proof.now in
    let salts = ap row_sets c.deref.ensures.value in
    let refusal = salted_sets_refusal g.row.SALT_ELEMS ds o.rows o.salts in
    let e = c.in_err-check_salted_sets.field-0.0 in
    handed c.from_residual.result e refusal c.from_residual.ensures.1 (refuses_so refusal e
    (sym (λ i. salted_sets_refusal g.row.SALT_ELEMS ds o.rows (salts i)) ∙ c.in_err-check_salted_sets.ensures.answer))

pub returns-in_err-wider-clause-checked : goal.returns-in_err-wider-clause-checked
returns-in_err-wider-clause-checked g c =
    let ds = c.args.dimensions.now in
    let o = salted_pruned_borrowed c.args.indices.now c.args.rows.now c.args.proof.now in
    let salts = ap row_sets c.deref.ensures.value in
    unrefused_so c.from_residual-in_err-wider.result (salted_sets_refusal g.row.SALT_ELEMS ds o.rows o.salts)
    (sym (λ i. salted_sets_refusal g.row.SALT_ELEMS ds o.rows (salts i)) ∙ c.in_ok-check_salted_sets.ensures.answer)
