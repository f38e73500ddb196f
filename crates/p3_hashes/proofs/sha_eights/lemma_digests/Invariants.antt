use Rattle.std.proofs.Common.{◌≡◌, ℕ, ◌<◌, length, slice_index_or, []}
use Rattle.p3_hashes.proofs.sha_eights.lemma_digests.Given as goal

abbrev pub invariant-loop-k : goal.invariant-loop-k
invariant-loop-k g l = (i e : ℕ) → i < l.k → e < length (slice_index_or l.groups i [])
    → length (slice_index_or (slice_index_or l.groups i []) e []) ≡ g.row.D
