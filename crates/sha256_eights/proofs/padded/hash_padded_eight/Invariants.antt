use Rattle.std.proofs.Common.{◌≡◌, ℕ, ◌*◌, List}
use Rattle.sha2.specs.Sha256.{padded_message, sha256}
use Rattle.sha256_eights.specs.Messages.{message}
use Rattle.sha256_eights.specs.Inner.Written.{AreWritten}
use Rattle.sha256_eights.proofs.padded.hash_padded_eight.Given as goal

abbrev pub invariant-loop-j : goal.invariant-loop-j
invariant-loop-j l =
    AreWritten (λ k d. (m : List ℕ) → message (64 * l.count) l.blocks k ≡ padded_message m → d ≡ sha256 m)
    0 l.j l.initial.digests l.digests
