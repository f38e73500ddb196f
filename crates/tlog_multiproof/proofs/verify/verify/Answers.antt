-- The answer of the opening's check says what is answered.
use Rattle.std.proofs.Common.{rules, ◌∙◌, length, subst}
use Rattle.std.proofs.lemmas.Result.{err_from_is_err_and}
use Rattle.p3_support.specs.Shown.{row_sets}
use Rattle.p3_merkle_core.specs.Pruning.{pruned_of}
use Rattle.p3_merkle_core.specs.Refusals.{AnswersUnlessMemory, IsEquality, pruned_refusal_under}
use Rattle.p3_answers.proofs.AnswerFacts.{none_parts}
use Rattle.tlog_multiproof.specs.Entries.{digests_refusal, indices_refusal, proof_nodes}
use Rattle.tlog_multiproof.specs.Instance.{root_cap}
use Rattle.tlog_multiproof.specs.contracts.tree.NodePartialEq.TheImpl.{ghosts as node}
use Rattle.tlog_multiproof.proofs.EntriesFacts.{form_from, form_kept}
use Rattle.tlog_multiproof.proofs.VerdictFacts.{meaning_kept}
use Rattle.tlog_multiproof.proofs.verify.verify.Goals as goal

decides : IsEquality node.eq
decides = search rules

pub returns-in_err-opening-clause-complete : goal.returns-in_err-opening-clause-complete
returns-in_err-opening-clause-complete g c =
    let gone = err_from_is_err_and c.from_residual.result c.from_residual.ensures.1 in
    rw (gone.1, gone.2)
    (form_kept g.H.LogHash.hash c.args.size c.args.indices.now c.args.leaves.now c.args.proof.now c.args.root.now
    c.in_err-opening.ensures.answer).complete

pub returns : goal.returns
returns g c =
    let size = c.args.size in
    let indices = c.args.indices.now in
    let leaves = c.args.leaves.now in
    let proof = c.args.proof.now in
    let form = form_from size indices (length leaves) (length proof) c.in_ok-opening.ensures.answer in
    let lent = c.new.ensures
    ∙ (λ i. pruned_of indices (row_sets (c.deref.ensures.value i))
    c.in_ok-opening.opening.pruned_proof.sibling_hashes.items) ∙ c.in_ok-opening.ensures.made in
    let params_are = c.checker.ensures size c.new-tree.ensures in
    let answer = subst (AnswersUnlessMemory c.check_pruned_opening.result)
    (λ i. pruned_refusal_under node.eq node.eq (params_are i) (root_cap c.args.root.now) (lent i))
    c.check_pruned_opening.ensures.answer in
    let k = meaning_kept g.H.LogHash.hash size indices leaves proof c.args.root.now form node.eq node.eq decides decides
    c.check_pruned_opening.result c.from_opening_verdict.result answer c.from_opening_verdict.ensures in
    let unrefused = none_parts (indices_refusal size indices (length leaves))
    (digests_refusal (length (proof_nodes size indices)) (length proof)) c.in_ok-opening.ensures.answer in
    record { accepted = k.accepted; complete = k.complete; checked = rw (unrefused.0) tt; refused = k.refused }
