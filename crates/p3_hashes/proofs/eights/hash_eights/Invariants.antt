use Rattle.std.proofs.Common.{◌≡◌, ◌*◌}
use Rattle.p3_hashes.specs.Fold.{fold_hash}
use Rattle.sha256_eights.specs.Inner.Written.{AreWritten}
use Rattle.p3_support.specs.Lists.{message}
use Rattle.p3_hashes.proofs.eights.hash_eights.Given as goal

abbrev pub invariant-loop-eight : goal.invariant-loop-eight
invariant-loop-eight g l =
    AreWritten (λ j d. d ≡ fold_hash g.row.D (message l.width l.messages j)) 0 (8 * l.eight) l.initial.out l.out
