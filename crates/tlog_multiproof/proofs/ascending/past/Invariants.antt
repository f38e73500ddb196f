use Rattle.std.proofs.Common.{◌≡◌, ℕ, ◌<◌, ◌≤◌, slice_index}
use Rattle.tlog_multiproof.proofs.ascending.past.Given as goal

-- the entries so far have the index
abbrev pub invariant-loop-k : goal.invariant-loop-k
invariant-loop-k g l =
    (i : ℕ) → l.first ≤ i → i < l.k → slice_index (g.E.AscendingEntries.indices l.entries) i ≡ l.index
