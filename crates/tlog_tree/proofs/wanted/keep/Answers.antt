use Rattle.std.proofs.Common.{arith, ap, ◌∙◌, slice_set}
use Rattle.std.proofs.lemmas.List.{get_or_default}
use Rattle.std.proofs.lemmas.List.Edits.{map_over_more}
use Rattle.tlog_tree.specs.Inner.Wanted.{kept_in}
use Rattle.tlog_tree.specs.declared.wanted.WantedNode.{WantedNode}
use Rattle.tlog_tree.proofs.wanted.keep.Goals as goal

pub loop-node-preserved : goal.loop-node-preserved
loop-node-preserved c =
    let ws = c.loop-node.wanted in
    let i = c.loop-node.node-index in
    ap (λ (w : WantedNode). slice_set ws i w) c.kept.ensures
    ∙ map_over_more (kept_in c.args.layer c.args.first c.args.nodes.now) c.args.wanted.now ws i _ (omega arith)
    c.loop-node.invariant (get_or_default ws i _ _ (omega arith))
