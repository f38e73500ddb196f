use Rattle.std.proofs.Common.{◌≡◌, ℕ, ◌<◌, ◌*◌, List, [], replicate, slice_index}
use Rattle.sha2.specs.Sha256.{schedule, word_at}
use Rattle.sha256_eights.specs.Inner.Lanes.{lane}
use Rattle.sha256_eights.specs.Inner.Written.{AreWritten}
use Rattle.sha256_eights.proofs.block.schedule.Given as goal

abbrev pub invariant-loop-t : goal.invariant-loop-t
invariant-loop-t l =
    AreWritten (λ k v. (j : ℕ) → j < 8 → (b : List ℕ)
    → ((i : ℕ) → i < 16 → slice_index (lane j l.block) i ≡ word_at b (4 * i))
    → slice_index v j ≡ slice_index (schedule b 48) k) 0 l.t (replicate 64 []) l.words
