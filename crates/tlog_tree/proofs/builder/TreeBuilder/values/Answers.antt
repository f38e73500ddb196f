-- Each wanted node so far has its value at its position (`answered`), and the nodes have all positions.
use Rattle.std.proofs.Common.{arith, length, ap, ◌∙◌, ◌<◌, []}
use Rattle.std.proofs.lemmas.List.{length-set}
use Rattle.sha2.specs.Sha256.{sha256}
use Rattle.tlog_tree.specs.declared.wanted.WantedNode.{WantedNode}
use Rattle.tlog_tree.specs.Trees.{id_of}
use Rattle.tlog_tree.proofs.Ordered.{all_answered, answered_more, index_within}
use Rattle.tlog_tree.proofs.builder.TreeBuilder.values.Goals.{else-node-len, then-node-len}
use Rattle.tlog_tree.proofs.builder.TreeBuilder.values.Goals as goal

abbrev none : WantedNode
none = record { id = id_of 0 0; index = 0; value = [] }

pub loop-node-preserved : goal.loop-node-preserved
loop-node-preserved c =
    let ws = c.args.self.now.wanted.items in
    let i = c.loop-node.node-index in
    let items = c.deref-node-items.ensures.value in
    let kept = c.loop-node.invariant in
    let inside : i < length ws = omega (arith, c.loop-node-test.true, ap length items) in
    elim c.if-node-len.branch [
      | then-node-len w ↦ rw (w.values-is, items) (record {
        room = length-set c.loop-node.values.items _ _ ∙ kept.room;
        answered = λ leaves nodes is.
            let value = rw items at (w.value.ensures leaves is.frontier) in
            answered_more sha256 leaves nodes ws c.loop-node.values.items i none w.value.result is.at inside kept.room
            (value (is.values i none inside)) (kept.answered leaves nodes is);
      })
      | else-node-len w ↦ rw w.values-is (record {
        room = kept.room;
        answered = λ leaves nodes is.
            let past = rw items at w.if-node-len.false in
            absurd (omega (
              arith,
              past,
              index_within nodes ws is.at i none inside,
              kept.room,
              c.len-in-loop-node.ensures,
              c.loop-node.values.ok,
            ));
      })
    ]

pub returns : goal.returns
returns c = λ leaves nodes is.
    all_answered sha256 leaves nodes c.args.self.now.wanted.items c.loop-node.values.items is.at
    c.loop-node.invariant.room
    (λ k d h. c.loop-node.invariant.answered leaves nodes is k d
    (omega (arith, c.loop-node-test.false, c.deref-node-items.ensures.len)))
