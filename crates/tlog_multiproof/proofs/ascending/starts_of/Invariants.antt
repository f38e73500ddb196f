use Rattle.std.proofs.Common.{◌≡◌, ℕ, ◌<◌, filter, length, slice_index}
use Rattle.p3_merkle_core.specs.Pruning.{boundary}
use Rattle.tlog_multiproof.specs.Entries.{is_node}
use Rattle.tlog_multiproof.specs.Instance.{log_shape}
use Rattle.tlog_multiproof.proofs.ascending.starts_of.Given as goal

-- the digests of the layers below
abbrev pub invariant-loop-layer : goal.invariant-loop-layer
invariant-loop-layer g l = record {
  long : length l.starts ≡ 64;
  total : l.total ≡ length (filter (is_node l.size)
      (boundary (log_shape l.size) (g.E.AscendingEntries.indices l.entries) l.layer));
  starts : (m : ℕ) → m < l.layer → slice_index l.starts m ≡ length (filter (is_node l.size)
      (boundary (log_shape l.size) (g.E.AscendingEntries.indices l.entries) m));
}
