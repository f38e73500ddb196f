-- Heights are refused, else a width.
use Rattle.std.proofs.Common.{List, ap, inr, refl, rules, subst, sym, ℕ, ◌∙◌}
use Rattle.std.proofs.lemmas.Result.{err_from_is_err_and}
use Rattle.std.specs.Option.{option_or}
use Rattle.p3_merkle_core.specs.Gate.{gate_refusal}
use Rattle.p3_support.specs.Batches.{heights_of}
use Rattle.p3_support.specs.declared.matrix.Dimensions.{Dimensions}
use Rattle.p3_merkle_core.specs.Geometry.{IsLawful}
use Rattle.p3_merkle_core.specs.Refusals.{AnswersUnlessMemory}
use Rattle.p3_merkle_tree.specs.Inner.SaltedCommitmentLaws.{wide_heights}
use Rattle.p3_merkle_tree.specs.SaltRefusals.{salted_commit_refusal, widening_refusal}
use Rattle.p3_merkle_tree.proofs.hiding_mmcs.salted_dimensions.Goals as goal

pub returns-in_err-check_heights-clause-answer : goal.returns-in_err-check_heights-clause-answer
returns-in_err-check_heights-clause-answer g c =
    subst (λ (ds : List Dimensions). AnswersUnlessMemory c.from_residual-in_err-check_heights.result
    (salted_commit_refusal c.args.salt_elems ds)) (c.deref.ensures.value ∙ c.in_ok-dimensions.ensures) (search rules)

pub returns-in_err-check_widening-clause-answer : goal.returns-in_err-check_widening-clause-answer
returns-in_err-check_widening-clause-answer g c =
    let r = c.from_residual-in_err-check_widening.result in
    let left = err_from_is_err_and r c.from_residual-in_err-check_widening.ensures.1 in
    let heights = ap (λ (ds : List Dimensions). gate_refusal (heights_of ds))
    (c.deref.ensures.value ∙ c.in_ok-dimensions.ensures) in
    let widths = ap (λ (ds : List Dimensions). widening_refusal c.args.salt_elems ds)
    (c.deref-2.ensures.value ∙ c.in_ok-dimensions.ensures) in
    let none = sym heights ∙ c.in_ok-check_heights.ensures.answer in
    let some = sym widths ∙ c.in_err-check_widening.ensures.answer in
    rw (left.1, left.2) (inr (λ i. option_or (none i) (some i)))

-- the widened matrices have the same heights
pub returns-clause-lawful : goal.returns-clause-lawful
returns-clause-lawful g c =
    let e = c.args.salt_elems in
    let own = c.deref-3.result.now in
    let lawful = subst (λ (ds : List Dimensions). IsLawful (heights_of ds))
    (c.deref.ensures.value ∙ sym c.deref-3.ensures.value) (c.in_ok-check_heights.ensures.lawful.0 refl) in
    subst (λ (hs : List ℕ). IsLawful hs)
    (sym (ap heights_of c.in_ok-widened_dimensions.ensures ∙ wide_heights e own)) lawful
