use Rattle.std.proofs.Common.{◌≡◌, ◌+◌}
use Rattle.sha2.specs.Sha256.{sha256}
use Rattle.sha256_eights.specs.Messages.{message}
use Rattle.sha256_eights.specs.Inner.Written.{AreWritten}
use Rattle.sha256_eights.proofs.messages.hash_eight.Given as goal

abbrev pub invariant-loop-j : goal.invariant-loop-j
invariant-loop-j g l =
    AreWritten (λ i d. d ≡ sha256 (message l.width l.messages i)) l.first (l.first + l.j) l.initial.out l.out
