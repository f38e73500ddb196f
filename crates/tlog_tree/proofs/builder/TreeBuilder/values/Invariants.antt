use Rattle.std.proofs.Common.{◌≡◌, ◌<◌, List, ℕ, get_or, length}
use Rattle.sha2.specs.Sha256.{sha256}
use Rattle.tlog_tree.specs.Builders.{IsBuilderOf}
use Rattle.tlog_tree.specs.declared.wanted.WantedNode.{WantedNode}
use Rattle.tlog_tree.specs.declared.node_id.NodeId.{NodeId}
use Rattle.tlog_tree.proofs.Ordered.{IsAnswered}
use Rattle.tlog_tree.proofs.builder.TreeBuilder.values.Given as goal

abbrev pub invariant-loop-node : goal.invariant-loop-node
invariant-loop-node l = record {
  room : length l.values.items ≡ length l.self.wanted.items;
  answered : (leaves : List (List ℕ)) (nodes : List NodeId) → IsBuilderOf leaves nodes l.self →
      (k : ℕ) (d : WantedNode) → k < l.node-index →
      IsAnswered sha256 leaves nodes l.values.items (get_or l.self.wanted.items k d).index;
}
