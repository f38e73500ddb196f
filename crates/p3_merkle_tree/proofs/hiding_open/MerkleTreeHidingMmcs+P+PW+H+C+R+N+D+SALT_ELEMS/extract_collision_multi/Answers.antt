-- Each refusal in its order; else the plain extraction from rows followed by their salts.
use Rattle.std.proofs.Common.{◌∙◌, ℕ, List, ap, inl, inr, sym}
use Rattle.std.proofs.lemmas.Result.{err_from_is_err_and}
use Rattle.std.specs.Prelude.{Err}
use Rattle.std.specs.Option.{unwrap_or}
use Rattle.p3_support.specs.Shown.{roots_of, row_sets}
use Rattle.p3_merkle_core.specs.Views.{inputs_in, found_pair}
use Rattle.p3_merkle_core.specs.declared.collision.InputPair.{InputPair}
use Rattle.p3_merkle_core.proofs.Pruned.Refused.{handed, refuses_so, unrefused_so}
use Rattle.p3_merkle_tree.specs.HidingSchemes.{salted_pruned_borrowed}
use Rattle.p3_merkle_tree.specs.SaltRefusals.{salted_sets_refusal}
use Rattle.p3_merkle_tree.proofs.ExtractedFacts.{answer_of, both_joined, first_refused, only_of, second_refused}
use Rattle.p3_merkle_tree.proofs.ExtractedFacts.{several}
use Rattle.p3_merkle_tree.proofs.SaltedExtractionFacts.{salted_pruned_told}
use Rattle.p3_merkle_verifier.specs.Inner.RestoredLevels.{pruned_in}
use Rattle.p3_merkle_tree.proofs.hiding_open.MerkleTreeHidingMmcs+P+PW+H+C+R+N+D+SALT_ELEMS.extract_collision_multi.Goals as goal

pub returns-in_err-check_salted_sets-clause-extraction : goal.returns-in_err-check_salted_sets-clause-extraction
returns-in_err-check_salted_sets-clause-extraction g c =
    let ds = c.args.dimensions.now in
    let at = several c.args.self.now ds (roots_of c.args.commit.now) g.met.P.PackedValue.eq_is_equality
    g.met.PW.PackedValue.eq_is_equality in
    let o = salted_pruned_borrowed c.args.indices1.now c.args.rows1.now c.args.proof1.now in
    let u = salted_pruned_borrowed c.args.indices2.now c.args.rows2.now c.args.proof2.now in
    let salts = ap row_sets c.deref.ensures.value in
    let r = c.from_residual.result in
    let left = err_from_is_err_and r c.from_residual.ensures.1 in
    salted_pruned_told _ _ _ _ _ _ _ o u r (first_refused at o u
    (λ (z : ℕ × ℕ × InputPair _ (List _)). (z.0, z.1, inputs_in z.2)) r c.from_residual.ensures.0
    (answer_of r left.0 (at.before o) left.1
    (inr (sym (λ i. salted_sets_refusal g.row.SALT_ELEMS ds o.rows (salts i))
    ∙ rw left.2 c.in_err-check_salted_sets.ensures.answer))))

pub returns-in_err-wider-clause-extraction : goal.returns-in_err-wider-clause-extraction
returns-in_err-wider-clause-extraction g c =
    let ds = c.args.dimensions.now in
    let at = several c.args.self.now ds (roots_of c.args.commit.now) g.met.P.PackedValue.eq_is_equality
    g.met.PW.PackedValue.eq_is_equality in
    let o = salted_pruned_borrowed c.args.indices1.now c.args.rows1.now c.args.proof1.now in
    let u = salted_pruned_borrowed c.args.indices2.now c.args.rows2.now c.args.proof2.now in
    let r = c.from_residual-in_err-wider.result in
    let left = err_from_is_err_and r c.from_residual-in_err-wider.ensures.1 in
    salted_pruned_told _ _ _ _ _ _ _ o u r (first_refused at o u
    (λ (z : ℕ × ℕ × InputPair _ (List _)). (z.0, z.1, inputs_in z.2)) r c.from_residual-in_err-wider.ensures.0
    (answer_of r left.0 (at.before o) left.1 (inl left.2)))

pub returns-in-Err-clause-extraction : goal.returns-in-Err-clause-extraction
returns-in-Err-clause-extraction g c =
    let ds = c.args.dimensions.now in
    let at = several c.args.self.now ds (roots_of c.args.commit.now) g.met.P.PackedValue.eq_is_equality
    g.met.PW.PackedValue.eq_is_equality in
    let o = salted_pruned_borrowed c.args.indices1.now c.args.rows1.now c.args.proof1.now in
    let u = salted_pruned_borrowed c.args.indices2.now c.args.rows2.now c.args.proof2.now in
    let salts = ap row_sets c.deref.ensures.value in
    let salts2 = ap row_sets c.deref-2.ensures.value in
    salted_pruned_told _ _ _ _ _ _ _ o u (Err c.unwrap_or.result) (second_refused at o u
    c.deref-in-Err.result.now (pruned_in c.opening_with_salts-first.result)
    (record {
      none = sym (λ i. salted_sets_refusal g.row.SALT_ELEMS ds o.rows (salts i))
          ∙ c.in_ok-check_salted_sets.ensures.answer;
      is_wide = c.deref-in-Err.ensures.value ∙ c.in_ok-wider.ensures;
      is = c.opening_with_salts-first.ensures;
    }) c.verify_row_sets-checked.result c.in-Err.error c.unwrap_or.result
    (rw c.roots-roots.ensures at c.verify_row_sets-checked.ensures.verdict.answer)
    (inr (sym (λ i. salted_sets_refusal g.row.SALT_ELEMS ds u.rows (salts2 i)) ∙ c.in-Err.ensures.answer))
    (c.unwrap_or.ensures ∙ ap (λ z. unwrap_or z c.in-Err.error) c.err.ensures.value))

pub returns-clause-extraction : goal.returns-clause-extraction
returns-clause-extraction g c =
    let ds = c.args.dimensions.now in
    let at = several c.args.self.now ds (roots_of c.args.commit.now) g.met.P.PackedValue.eq_is_equality
    g.met.PW.PackedValue.eq_is_equality in
    let o = salted_pruned_borrowed c.args.indices1.now c.args.rows1.now c.args.proof1.now in
    let u = salted_pruned_borrowed c.args.indices2.now c.args.rows2.now c.args.proof2.now in
    let salts = ap row_sets c.deref.ensures.value in
    let salts2 = ap row_sets c.deref-2.ensures.value in
    let wide = c.deref-3.ensures.value ∙ c.in_ok-wider.ensures in
    let r = c.pruned_extraction.result in
    salted_pruned_told _ _ _ _ _ _ _ o u r (both_joined at o u c.deref-3.result.now
    (pruned_in c.opening_with_salts-first.result) (pruned_in c.opening_with_salts-second.result)
    (record {
      none = sym (λ i. salted_sets_refusal g.row.SALT_ELEMS ds o.rows (salts i))
          ∙ c.in_ok-check_salted_sets.ensures.answer;
      is_wide = wide;
      is = c.opening_with_salts-first.ensures;
    })
    (record {
      none = sym (λ i. salted_sets_refusal g.row.SALT_ELEMS ds u.rows (salts2 i)) ∙ c.in_default.ensures.answer;
      is_wide = wide;
      is = c.opening_with_salts-second.ensures;
    }) (found_pair r) (rw c.roots-roots.ensures at c.pruned_extraction.ensures.extraction))

pub returns-in_err-check_salted_sets-clause-only : goal.returns-in_err-check_salted_sets-clause-only
returns-in_err-check_salted_sets-clause-only g c =
    only_of c.args.self.now c.args.dimensions.now (roots_of c.args.commit.now)
    (salted_pruned_borrowed c.args.indices1.now c.args.rows1.now c.args.proof1.now)
    (salted_pruned_borrowed c.args.indices2.now c.args.rows2.now c.args.proof2.now) c.from_residual.result
    (returns-in_err-check_salted_sets-clause-extraction g c)

pub returns-in_err-wider-clause-only : goal.returns-in_err-wider-clause-only
returns-in_err-wider-clause-only g c =
    only_of c.args.self.now c.args.dimensions.now (roots_of c.args.commit.now)
    (salted_pruned_borrowed c.args.indices1.now c.args.rows1.now c.args.proof1.now)
    (salted_pruned_borrowed c.args.indices2.now c.args.rows2.now c.args.proof2.now) c.from_residual-in_err-wider.result
    (returns-in_err-wider-clause-extraction g c)

pub returns-in-Err-clause-only : goal.returns-in-Err-clause-only
returns-in-Err-clause-only g c =
    only_of c.args.self.now c.args.dimensions.now (roots_of c.args.commit.now)
    (salted_pruned_borrowed c.args.indices1.now c.args.rows1.now c.args.proof1.now)
    (salted_pruned_borrowed c.args.indices2.now c.args.rows2.now c.args.proof2.now) (Err c.unwrap_or.result)
    (returns-in-Err-clause-extraction g c)

pub returns-clause-only : goal.returns-clause-only
returns-clause-only g c =
    only_of c.args.self.now c.args.dimensions.now (roots_of c.args.commit.now)
    (salted_pruned_borrowed c.args.indices1.now c.args.rows1.now c.args.proof1.now)
    (salted_pruned_borrowed c.args.indices2.now c.args.rows2.now c.args.proof2.now) c.pruned_extraction.result
    (returns-clause-extraction g c)

pub returns-in_err-check_salted_sets-clause-checked : goal.returns-in_err-check_salted_sets-clause-checked
returns-in_err-check_salted_sets-clause-checked g c =
    let ds = c.args.dimensions.now in
    let o = salted_pruned_borrowed c.args.indices1.now c.args.rows1.now c.args.proof1.now in
    let salts = ap row_sets c.deref.ensures.value in
    let refusal = salted_sets_refusal g.row.SALT_ELEMS ds o.rows o.salts in
    let e = c.in_err-check_salted_sets.field-0.0 in
    handed c.from_residual.result e refusal c.from_residual.ensures.1 (refuses_so refusal e
    (sym (λ i. salted_sets_refusal g.row.SALT_ELEMS ds o.rows (salts i)) ∙ c.in_err-check_salted_sets.ensures.answer))

pub returns-in_err-wider-clause-checked : goal.returns-in_err-wider-clause-checked
returns-in_err-wider-clause-checked g c =
    let ds = c.args.dimensions.now in
    let o = salted_pruned_borrowed c.args.indices1.now c.args.rows1.now c.args.proof1.now in
    let salts = ap row_sets c.deref.ensures.value in
    unrefused_so c.from_residual-in_err-wider.result (salted_sets_refusal g.row.SALT_ELEMS ds o.rows o.salts)
    (sym (λ i. salted_sets_refusal g.row.SALT_ELEMS ds o.rows (salts i)) ∙ c.in_ok-check_salted_sets.ensures.answer)

pub returns-clause-checked : goal.returns-clause-checked
returns-clause-checked g c =
    let ds = c.args.dimensions.now in
    let o = salted_pruned_borrowed c.args.indices1.now c.args.rows1.now c.args.proof1.now in
    let salts = ap row_sets c.deref.ensures.value in
    unrefused_so c.pruned_extraction.result (salted_sets_refusal g.row.SALT_ELEMS ds o.rows o.salts)
    (sym (λ i. salted_sets_refusal g.row.SALT_ELEMS ds o.rows (salts i)) ∙ c.in_ok-check_salted_sets.ensures.answer)

pub returns-in-Err-clause-checked : goal.returns-in-Err-clause-checked
returns-in-Err-clause-checked g c =
    let ds = c.args.dimensions.now in
    let o = salted_pruned_borrowed c.args.indices1.now c.args.rows1.now c.args.proof1.now in
    let salts = ap row_sets c.deref.ensures.value in
    let none = sym (λ i. salted_sets_refusal g.row.SALT_ELEMS ds o.rows (salts i))
    ∙ c.in_ok-check_salted_sets.ensures.answer in
    rw none tt
