-- The inputs of the rounds over a block.
use Rattle.std.specs.Prelude.{◌≡◌, ℕ, ◌+◌, ◌*◌, ◌/◌, ◌<◌, List, length, slice_index, take, drop}
use Rattle.sha2.specs.Sha256.{add32, padded_message, round_constants, schedule}
use Rattle.sha256_eights.specs.Inner.Lanes.{lane}

-- the inputs of the 64 rounds over block b: each constant with the word of the schedule added to it
abbrev pub AreInputs : List ℕ → List ℕ → Type 0
AreInputs inputs b = (t : ℕ) → t < 64 →
    slice_index inputs t ≡ add32 (slice_index round_constants t) (slice_index (schedule b 48) t)

-- the inputs of the rounds over the last block of messages of this width in bytes, in each lane, if that block is
-- padding alone
abbrev pub IsPadding : ℕ → List (List ℕ) → Type 0
IsPadding width inputs = (width + 63) / 64 < (width + 72) / 64 → (m : List ℕ) → length m ≡ width → (j : ℕ) → j < 8 →
    AreInputs (lane j inputs) (take 64 (drop ((width + 63) / 64 * 64) (padded_message m)))
