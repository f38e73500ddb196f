use Rattle.std.proofs.Common.{◌≡◌, ℕ, ◌+◌, ◌*◌, ◌<◌, slice_index}
use Rattle.sha2.specs.Sha256.{word_at}
use Rattle.sha256_eights.specs.Messages.{message}
use Rattle.sha256_eights.specs.Inner.Written.{AreWritten}
use Rattle.sha256_eights.proofs.padded.load_block.Given as goal

abbrev pub invariant-loop-i : goal.invariant-loop-i
invariant-loop-i l =
    AreWritten (λ k v. (j : ℕ) → j < 8 → slice_index v j
    ≡ word_at (message l.width l.messages j) (4 * (16 * l.t + k))) 0 l.i l.initial.block l.block
