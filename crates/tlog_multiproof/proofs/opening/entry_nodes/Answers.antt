-- The nodes so far are those of the boundary that have entries below them; their values prove the entries of any log.
use Rattle.std.proofs.Common.{◌≡◌, ◌<◌, ◌≤◌, ◌∙◌, All, ap, filter, length, map, get_or, sym, subst, [], ℕ, List}
use Rattle.std.proofs.lemmas.List.{take_all}
use Rattle.p3_merkle_core.specs.Geometry.{levels}
use Rattle.p3_merkle_core.specs.Pruning.{boundary}
use Rattle.tlog.specs.Verdicts.{size_limit}
use Rattle.tlog_tree.specs.Trees.{leaves_root, values_at as tree_values}
use Rattle.tlog_tree.specs.declared.node_id.NodeId.{NodeId}
use Rattle.tlog_multiproof.specs.Entries.{AreIncluded, is_node, proof_nodes}
use Rattle.tlog_multiproof.specs.Instance.{log_shape, nodes_at, slot_of, slots_of}
use Rattle.tlog_multiproof.proofs.HonestEntries.{honest_included, values_at, values_there}
use Rattle.tlog_multiproof.proofs.NodeSlots.{kept_nodes}
use Rattle.tlog_multiproof.proofs.opening.entry_nodes.Goals as goal

-- they are the proof's
pub returns-clause-nodes : goal.returns-clause-nodes
returns-clause-nodes c =
    let size = c.args.size in
    let all = c.deref-node-items.result.now in
    c.loop-node.invariant
    ∙ ap (filter (λ (node : NodeId). is_node size (slot_of node)))
    (take_all c.loop-node.node-index all c.loop-node-test.false)
    ∙ kept_nodes (is_node size) all
    ∙ ap (λ (slots : List (ℕ × ℕ)). nodes_at (filter (is_node size) slots))
    (ap slots_of c.deref-node-items.ensures.value ∙ c.in_ok-boundary.ensures.boundary)

pub returns-clause-accepted : goal.returns-clause-accepted
returns-clause-accepted c = λ hash leaves long any.
    let n = length leaves in
    let indices = c.args.indices.now in
    let within : All (λ i. i < n) indices = rw long c.requires.within in
    let small : n ≤ size_limit = rw long c.requires.limit in
    let some : 0 < n = rw long c.requires.some in
    let nodes : c.loop-node.nodes.items ≡ proof_nodes n indices =
    returns-clause-nodes c ∙ ap (λ m. proof_nodes m indices) (sym long) in (
      values_at hash leaves some (proof_nodes n indices),
      ap (tree_values hash leaves) nodes
          ∙ values_there hash leaves some (boundary (log_shape n) indices (levels (log_shape n))),
      subst (λ m. AreIncluded hash m indices (map (λ i. get_or leaves i []) indices)
          (values_at hash leaves some (proof_nodes n indices)) (leaves_root hash leaves)) long
          (honest_included hash leaves some indices any within small),
    )
