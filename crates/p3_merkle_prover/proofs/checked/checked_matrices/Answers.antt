-- The dimensions are those of the definition.
use Rattle.std.proofs.Common.{List, None, ap, rules, subst, sym, ◌≡◌, ◌∙◌}
use Rattle.p3_support.specs.Batches.{dimensions_in, heights_of}
use Rattle.p3_support.specs.declared.matrix.Dimensions.{Dimensions}
use Rattle.p3_merkle_core.specs.Gate.{gate_refusal}
use Rattle.p3_merkle_core.specs.Refusals.{AnswersUnlessMemory}
use Rattle.p3_merkle_core.proofs.Lists.ViewFacts.{dimensions_are}
use Rattle.p3_merkle_prover.proofs.checked.checked_matrices.Goals as goal

pub returns-in_err-check_heights-clause-answer : goal.returns-in_err-check_heights-clause-answer
returns-in_err-check_heights-clause-answer g c =
    let height = g.M.Matrix.height_of in
    let width = g.M.Matrix.width_of in
    let are = c.deref-2.ensures.value ∙ c.in_ok-dimensions.ensures
    ∙ ap (dimensions_in height width) c.deref.ensures.value
    ∙ sym (dimensions_are height width g.M.Matrix.row_of c.args.matrices.items) in
    subst (λ (ds : List Dimensions). AnswersUnlessMemory c.from_residual-in_err-check_heights.result
    (gate_refusal (heights_of ds))) are (search rules)

pub returns-clause-answer : goal.returns-clause-answer
returns-clause-answer g c =
    let height = g.M.Matrix.height_of in
    let width = g.M.Matrix.width_of in
    let are = c.deref-2.ensures.value ∙ c.in_ok-dimensions.ensures
    ∙ ap (dimensions_in height width) c.deref.ensures.value
    ∙ sym (dimensions_are height width g.M.Matrix.row_of c.args.matrices.items) in
    subst (λ (ds : List Dimensions). gate_refusal (heights_of ds) ≡ None) are c.in_ok-check_heights.ensures.answer
