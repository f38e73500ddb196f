-- What the port's verdict says of entries whose form is right.
use Rattle.std.specs.Prelude.{◌≡◌, ◌≢◌, ◌⊎◌, MatchResult, Ok, Err, Result}
use Rattle.p3_merkle_core.specs.declared.error.MerkleTreeError.{MerkleTreeError}
use Rattle.p3_merkle_core.specs.declared.error.MerkleTreeError.TheVariants.{CapMismatch, OutOfMemory as NoMemory}
use Rattle.tlog_multiproof.specs.declared.error.EntriesError.{EntriesError}
use Rattle.tlog_multiproof.specs.declared.error.EntriesError.TheVariants.{TwoLeafHashes, RootMismatch, OutOfMemory}

-- why they are refused: memory ran out, another root, or else two leaf hashes of one index
abbrev pub IsReason : MerkleTreeError → EntriesError → Type 0
IsReason e why =
    ((e ≡ NoMemory) × (why ≡ OutOfMemory)) ⊎ (((e ≡ CapMismatch) × (why ≡ RootMismatch))
    ⊎ ((e ≢ NoMemory) × (e ≢ CapMismatch) × (why ≡ TwoLeafHashes)))

-- they are accepted if their opening is, or refused for its reason
abbrev pub IsMeaning : Result (Unit {0}) MerkleTreeError → Result (Unit {0}) EntriesError → Type 0
IsMeaning verdict result =
    MatchResult verdict (λ ok. result ≡ Ok ok) (λ e. (why : EntriesError) × (result ≡ Err why) × IsReason e why)
