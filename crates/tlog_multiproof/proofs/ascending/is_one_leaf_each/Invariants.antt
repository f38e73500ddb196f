use Rattle.std.proofs.Common.{◌≡◌, ℕ, suc, ◌<◌, [], slice_index}
use Rattle.std.specs.Prelude.{slice_index_or}
use Rattle.tlog_multiproof.proofs.ascending.is_one_leaf_each.Given as goal

-- the neighbours so far agree
abbrev pub invariant-loop-k : goal.invariant-loop-k
invariant-loop-k g l =
    (i : ℕ) → suc i < l.k → slice_index (g.E.AscendingEntries.indices l.entries) i
    ≡ slice_index (g.E.AscendingEntries.indices l.entries) (suc i) →
    slice_index_or (g.E.AscendingEntries.leaves l.entries) i []
    ≡ slice_index_or (g.E.AscendingEntries.leaves l.entries) (suc i) []
