-- What a root fixes, but for collisions of the hash function.
use Rattle.std.specs.Prelude.{◌≡◌, ◌<◌, ◌≤◌, ℕ, List, [], length, slice_index, slice_index_or}
use Rattle.tlog.specs.Rfc9162.{Hash as HashFunction, leaf_hash, root_of}
use Rattle.tlog.specs.Verdicts.{size_limit}
use Rattle.tlog_multiproof.specs.Entries.{AreIncluded}

-- leaf hashes that one proof shows under MTH(D) are those of D's entries at their indices
abbrev pub RootFixesLeaves : HashFunction → List (List ℕ) → List ℕ → List (List ℕ) → List (List ℕ) → Type 0
RootFixesLeaves hash D indices leaves proof =
    length D ≤ size_limit → AreIncluded hash (length D) indices leaves proof (root_of hash D) → (k : ℕ) →
    k < length indices →
    slice_index_or leaves k [] ≡ leaf_hash hash (slice_index_or D (slice_index indices k) [])
