-- The digests so far are padding or the first `used` ones of the proof, so that the proof has too few or too many
-- exactly if one is missing or left over.
use Rattle.std.proofs.Common.{◌≡◌, ◌<◌, ◌++◌, ◌∷◌, [], ◌∙◌, ℕ, List, Bool, ap, arith, get_or, inr, length, sym}
use Rattle.std.proofs.lemmas.List.{length-map}
use Rattle.tlog_tree.specs.Trees.{id_of}
use Rattle.tlog_tree.specs.declared.node_id.NodeId.{NodeId}
use Rattle.tlog_multiproof.specs.Entries.{is_node}
use Rattle.tlog_multiproof.specs.Instance.{slot_of, slots_of}
use Rattle.tlog_multiproof.proofs.NodeSlots.{slot_at}
use Rattle.tlog_multiproof.proofs.PaddingFacts.{node_more, padding_more, too_few}
use Rattle.tlog_multiproof.proofs.opening.with_padding.Goals as goal
use Rattle.tlog_multiproof.proofs.opening.with_padding.Goals.{then-is_node+else-used-proof, else-is_node}

-- what is tested of a node, of its slot
tested : (size : ℕ) (nodes : List NodeId) (k : ℕ) (b test : Bool) → k < length nodes →
    test ≡ is_node size (slot_of (get_or nodes k (id_of 0 0))) → test ≡ b →
    is_node size (get_or (slots_of nodes) k (0, 0)) ≡ b
tested size nodes k b test h by is = ap (is_node size) (slot_at nodes k h) ∙ sym by ∙ is

pub returns-then-used-proof-clause-answer : goal.returns-then-used-proof-clause-answer
returns-then-used-proof-clause-answer c =
    let nodes = c.args.nodes.now in
    let h = c.loop-node-test.true in
    inr (too_few c.args.size (slots_of nodes) c.args.proof.now c.loop-node.node-index c.loop-node.used
    c.loop-node.digests.items (omega (arith, h, length-map nodes slot_of))
    (tested c.args.size nodes c.loop-node.node-index _ _ h c.is_node.ensures c.if-is_node.true) c.if-used-proof.true
    c.loop-node.invariant)

pub loop-node-preserved : goal.loop-node-preserved
loop-node-preserved c =
    let size = c.args.size in
    let nodes = c.args.nodes.now in
    let slots = slots_of nodes in
    let proof = c.args.proof.now in
    let i = c.loop-node.node-index in
    let used = c.loop-node.used in
    let digests = c.loop-node.digests.items in
    let h = c.loop-node-test.true in
    let inside : i < length slots = omega (arith, h, length-map nodes slot_of) in
    elim c.if-is_node.branch [
      | then-is_node+else-used-proof w ↦
          let enough = c.loop-node.invariant.enough in
          let more : used < length proof = omega (arith, w.if-used-proof.false) in
          rw w.used-is
          (node_more size slots proof i used digests c.push.new.self.items inside
          (tested size nodes i _ _ h c.is_node.ensures w.if-is_node.true) more c.loop-node.invariant
          (c.in_ok-push.ensures.items ∙ ap (λ word. digests ++ (word ∷ []) ∷ []) w.word-is))
      | else-is_node w ↦
          rw w.used-is
          (padding_more size slots proof i used digests c.push.new.self.items inside
          (tested size nodes i _ _ h c.is_node.ensures w.if-is_node.false) c.loop-node.invariant
          (c.in_ok-push.ensures.items ∙ ap (λ word. digests ++ (word ∷ []) ∷ []) w.word-is))
    ]
