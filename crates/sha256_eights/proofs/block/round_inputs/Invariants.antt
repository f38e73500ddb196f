use Rattle.std.proofs.Common.{◌≡◌, ℕ, ◌<◌, ◌≤◌, [], slice_index, slice_index_or}
use Rattle.sha2.specs.Sha256.{add32, round_constants}
use Rattle.sha256_eights.specs.Inner.Written.{AreWritten}
use Rattle.sha256_eights.proofs.block.round_inputs.Given as goal

abbrev pub invariant-loop-t : goal.invariant-loop-t
invariant-loop-t l =
    AreWritten (λ k v. (j : ℕ) → j < 8 → slice_index v j
    ≡ add32 (slice_index round_constants k) (slice_index (slice_index_or l.initial.inputs k []) j))
    0 l.t l.initial.inputs l.inputs
    × ((k : ℕ) → l.t ≤ k → slice_index_or l.inputs k [] ≡ slice_index_or l.initial.inputs k [])
