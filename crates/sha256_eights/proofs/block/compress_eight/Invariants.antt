use Rattle.std.proofs.Common.{◌≡◌, ℕ, ◌<◌, ◌*◌, List, slice_index}
use Rattle.sha2.specs.Sha256.{IsRoundsAt, word_at}
use Rattle.sha256_eights.specs.Inner.Lanes.{lane}
use Rattle.sha256_eights.proofs.block.compress_eight.Given as goal

abbrev pub invariant-schedule : goal.invariant-schedule
invariant-schedule l = (j : ℕ) → j < 8 → (b : List ℕ)
    → ((i : ℕ) → i < 16 → slice_index (lane j l.block) i ≡ word_at b (4 * i))
    → IsRoundsAt b (lane j l.state) (lane j l.w) (lane j l.v) (16 * l.turn)
