use Rattle.std.proofs.Common.{◌≡◌, max, drop}
use Rattle.p3_support.specs.Batches.{greatest}
use Rattle.p3_merkle_core.proofs.pruning.check_indices.Given as goal

-- the greatest so far and the rest's is the greatest of all
abbrev pub invariant-loop-index : goal.invariant-loop-index
invariant-loop-index l = max l.highest (greatest (drop l.index-index l.indices)) ≡ greatest l.indices
