-- What is refused is not accepted, and what is accepted restores its paths.
use Rattle.std.proofs.Common.{rules, ◌≡◌, ◌∙◌, length, sym, subst, Some, ◌⊎◌}
use Rattle.std.specs.Prelude.{◌≢◌}
use Rattle.p3_support.specs.Shown.{row_sets}
use Rattle.p3_merkle_core.specs.Pruning.{pruned_of, restored_path, restored_paths}
use Rattle.p3_merkle_core.specs.Refusals.{IsEquality, pruned_refusal, pruned_refusal_under}
use Rattle.p3_merkle_core.specs.declared.error.MerkleTreeError.TheVariants.{OutOfMemory as NoMemory}
use Rattle.tlog_multiproof.specs.Entries.{entries_opening}
use Rattle.tlog_multiproof.specs.Instance.{log_params, root_cap}
use Rattle.tlog_multiproof.specs.contracts.tree.NodePartialEq.TheImpl.{ghosts as node}
use Rattle.tlog_multiproof.specs.declared.error.EntriesError.TheVariants.{OutOfMemory}
use Rattle.tlog_multiproof.proofs.EntriesFacts.{accepted_to, form_from, form_to}
use Rattle.tlog_multiproof.proofs.PathFacts.{siblings_are}
use Rattle.tlog_multiproof.proofs.VerdictFacts.{included_unrefused, not_refused, restored_unrefused, unrefused_included}
use Rattle.tlog_multiproof.proofs.collision.accepted_paths.Goals as goal

decides : IsEquality node.eq
decides = search rules

pub returns-in-Err : goal.returns-in-Err
returns-in-Err g c =
    let size = c.args.size in
    let indices = c.args.indices.now in
    let leaves = c.args.leaves.now in
    let proof = c.args.proof.now in
    let other : c.in-Err.field-0 ≢ OutOfMemory = search rules in
    record {
      refused = λ none small is.
          let form = (accepted_to g.H.LogHash.hash size indices leaves proof c.args.root.now small is).0 in
          not_refused other c.in-Err.ensures.answer (form_to size indices (length leaves) (length proof) form);
      accepted = tt;
    }

pub returns-in-Err-restored_paths : goal.returns-in-Err-restored_paths
returns-in-Err-restored_paths g c =
    let size = c.args.size in
    let indices = c.args.indices.now in
    let leaves = c.args.leaves.now in
    let proof = c.args.proof.now in
    let e = c.in-Err-restored_paths.field-0 in
    let other : e ≢ NoMemory = search rules in
    let form = form_from size indices (length leaves) (length proof) c.in-Ok.ensures.answer in
    let params_are = c.checker-checker.ensures size c.new-tree.ensures in
    let lent = c.new-opening.ensures
    ∙ (λ i. pruned_of indices (row_sets (c.deref.ensures.value i)) c.in-Ok.opening.pruned_proof.sibling_hashes.items)
    ∙ c.in-Ok.ensures.made in
    let answer = subst (λ refusal. (e ≡ NoMemory) ⊎ (refusal ≡ Some e))
    (λ i. pruned_refusal node.eq (params_are i).shape (params_are i).layer (lent i))
    c.in-Err-restored_paths.ensures.answer in
    record {
      refused = λ none small is.
          not_refused other answer
          (restored_unrefused g.H.LogHash.hash size indices leaves proof c.args.root.now form node.eq node.eq
          decides is);
      accepted = tt;
    }

pub returns-in-Ok-check_pruned_opening-clause-accepted : goal.returns-in-Ok-check_pruned_opening-clause-accepted
returns-in-Ok-check_pruned_opening-clause-accepted g c =
    let size = c.args.size in
    let indices = c.args.indices.now in
    let leaves = c.args.leaves.now in
    let proof = c.args.proof.now in
    let root = c.args.root.now in
    let path = restored_path (log_params g.H.LogHash.hash size) (entries_opening size indices leaves proof) in
    let form = form_from size indices (length leaves) (length proof) c.in-Ok.ensures.answer in
    let params_are = c.checker-checker.ensures size c.new-tree.ensures in
    let lent = c.new-opening.ensures
    ∙ (λ i. pruned_of indices (row_sets (c.deref.ensures.value i)) c.in-Ok.opening.pruned_proof.sibling_hashes.items)
    ∙ c.in-Ok.ensures.made in
    let shown = c.in-Ok-restored_paths.ensures.paths ∙ (λ i. restored_paths (params_are i) (lent i)) in
    let none = (λ i. pruned_refusal_under node.eq node.eq (sym params_are i) (root_cap root) (sym lent i))
    ∙ c.in-Ok-check_pruned_opening.ensures.answer in (
      form.small,
      unrefused_included g.H.LogHash.hash size indices leaves proof root form node.eq node.eq decides decides none,
      siblings_are c.in-Ok-restored_paths.paths.items path indices shown,
    )

pub returns : goal.returns
returns g c =
    let size = c.args.size in
    let indices = c.args.indices.now in
    let leaves = c.args.leaves.now in
    let proof = c.args.proof.now in
    let root = c.args.root.now in
    let e = c.in-Err-check_pruned_opening.field-0 in
    let other : e ≢ NoMemory = search rules in
    let form = form_from size indices (length leaves) (length proof) c.in-Ok.ensures.answer in
    let params_are = c.checker-checker.ensures size c.new-tree.ensures in
    let lent = c.new-opening.ensures
    ∙ (λ i. pruned_of indices (row_sets (c.deref.ensures.value i)) c.in-Ok.opening.pruned_proof.sibling_hashes.items)
    ∙ c.in-Ok.ensures.made in
    let answer = subst (λ refusal. (e ≡ NoMemory) ⊎ (refusal ≡ Some e))
    (λ i. pruned_refusal_under node.eq node.eq (params_are i) (root_cap root) (lent i))
    c.in-Err-check_pruned_opening.ensures.answer in
    record {
      refused = λ none small is.
          not_refused other answer
          (included_unrefused g.H.LogHash.hash size indices leaves proof root form node.eq node.eq decides decides is);
      accepted = tt;
    }
