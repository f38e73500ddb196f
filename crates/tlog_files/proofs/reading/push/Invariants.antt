use Rattle.std.proofs.Common.{◌≡◌, ℕ, List, ◌++◌, length}
use Rattle.tlog_files.specs.Inner.Splitting.{HasBuilt, IsReady}
use Rattle.tlog_tree.specs.declared.node_id.NodeId.{NodeId}
use Rattle.tlog_files.proofs.reading.push.Given as goal

abbrev pub invariant-entries : goal.invariant-entries
invariant-entries l = record {
  ready : IsReady l.splitter;
  same : (l.splitter.framing ≡ l.fn.splitter.framing) × (l.splitter.limit ≡ l.fn.splitter.limit);
  built : (nodes : List NodeId) (wanted front : List ℕ) → HasBuilt nodes wanted l.fn.splitter l.fn.tree front →
      (taken : List ℕ) × (l.bytes ≡ taken ++ l.left) × HasBuilt nodes wanted l.splitter l.tree (front ++ taken);
}

abbrev pub decreases-entries : goal.decreases-entries
decreases-entries l = length l.left
