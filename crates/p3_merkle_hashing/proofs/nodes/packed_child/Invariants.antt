use Rattle.std.proofs.Common.{◌≡◌, ℕ, ◌+◌, ◌*◌, ◌<◌, length, slice_index_or, []}
use Rattle.p3_merkle_hashing.proofs.nodes.packed_child.Given as goal

-- the children so far have their length
abbrev pub invariant-loop-k : goal.invariant-loop-k
invariant-loop-k g l = (j : ℕ) → j < l.k → length (slice_index_or l.below (l.step * (l.first + j) + l.n) []) ≡ g.row.D
