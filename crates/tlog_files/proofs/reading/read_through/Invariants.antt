use Rattle.std.proofs.Common.{◌≡◌, ℕ, List, [], Some, length}
use Rattle.std.specs.Io.KnownBytes.{Consumes}
use Rattle.tlog_files.specs.Entries.{IsReadNoFurther}
use Rattle.tlog_files.specs.Inner.Splitting.{HasBuilt, HasGrown, IsReady}
use Rattle.tlog_tree.specs.declared.node_id.NodeId.{NodeId}
use Rattle.tlog_files.proofs.reading.read_through.Given as goal

abbrev pub invariant-loop-turn : goal.invariant-loop-turn
invariant-loop-turn g l = record {
  wide : length l.window ≡ 1048576;
  ready : IsReady l.splitter;
  same : (l.splitter.framing ≡ l.fn.splitter.framing) × (l.splitter.limit ≡ l.fn.splitter.limit);
  built : (nodes : List NodeId) (wanted : List ℕ) → HasBuilt nodes wanted l.fn.splitter l.fn.tree [] →
      (bytes : List ℕ) × Consumes (g.R.Read.remaining l.fn.file) (g.R.Read.remaining l.file) bytes
      × HasGrown nodes wanted l.splitter l.tree [] bytes
      × IsReadNoFurther l.fn.splitter.framing (Some l.fn.splitter.limit) bytes;
}
