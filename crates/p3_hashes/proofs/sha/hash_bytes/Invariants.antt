use Rattle.std.proofs.Common.{◌≡◌, ℕ, ◌<◌, List, ◌++◌, take, length}
use Rattle.sha2.specs.Hashers.{Holds256}
use Rattle.p3_hashes.proofs.sha.hash_bytes.Given as goal

abbrev pub invariant-loop-byte : goal.invariant-loop-byte
invariant-loop-byte g l =
    (length l.block ≡ 64)
    × (l.filled < 64)
    × ((handed : List ℕ) × Holds256 l.hasher handed × (l.yielded ≡ handed ++ take l.filled l.block))
