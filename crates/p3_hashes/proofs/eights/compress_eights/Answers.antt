use Rattle.std.proofs.Common.{arith, ◌*◌, ◌∙◌, ap, refl}
use Rattle.p3_hashes.specs.Fold.{fold_compress}
use Rattle.sha256_eights.proofs.Written.{more_written}
use Rattle.p3_hashes.proofs.Written.{lanes_written}
use Rattle.p3_hashes.proofs.eights.compress_eights.Goals as goal

pub loop-eight-preserved : goal.loop-eight-preserved
loop-eight-preserved g c =
    more_written c.loop-eight.invariant (lanes_written (8 * c.loop-eight.eight) 8 c.unpack_at.ensures.long
    (λ k h. c.unpack_at.ensures.lanes k h ∙ c.compress_lanes.ensures k h
    ∙ ap (fold_compress g.row.D) (c.pack_groups-children.ensures k h)) c.unpack_at.ensures.before)
    (omega arith) refl (omega arith)
