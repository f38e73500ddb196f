use Rattle.std.proofs.Common.{◌≡◌}
use Rattle.sha2.specs.Sha256.{sha256}
use Rattle.sha256_eights.specs.Messages.{message}
use Rattle.sha256_eights.specs.Inner.Written.{AreWritten}
use Rattle.sha256_eights.proofs.messages.hash_rest.Given as goal

abbrev pub invariant-loop-i : goal.invariant-loop-i
invariant-loop-i g l = AreWritten (λ j d. d ≡ sha256 (message l.width l.messages j)) l.from l.i l.initial.out l.out
