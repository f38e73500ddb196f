use Rattle.std.proofs.Common.{◌≡◌, ◌*◌, slice_index_or, []}
use Rattle.p3_hashes.specs.Fold.{fold_compress}
use Rattle.sha256_eights.specs.Inner.Written.{AreWritten}
use Rattle.p3_hashes.proofs.eights.compress_eights.Given as goal

abbrev pub invariant-loop-eight : goal.invariant-loop-eight
invariant-loop-eight g l =
    AreWritten (λ j d. d ≡ fold_compress g.row.D (slice_index_or l.groups j [])) 0 (8 * l.eight) l.initial.out l.out
