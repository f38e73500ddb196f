use Rattle.std.proofs.Common.{◌≡◌, ℕ, List, ◌+◌, ◌*◌, ◌<◌, length, slice_index}
use Rattle.sha2.specs.Sha256.{padded_message, word_at}
use Rattle.sha256_eights.specs.Inner.Written.{AreWritten}
use Rattle.sha256_eights.proofs.messages.padding_block.Given as goal

abbrev pub invariant-loop-i : goal.invariant-loop-i
invariant-loop-i l =
    AreWritten (λ k v. (m : List ℕ) → length m ≡ l.width → (j : ℕ) → j < 8
    → slice_index v j ≡ word_at (padded_message m) (4 * (16 * l.t + k))) 0 l.i l.initial.block l.block
