use Rattle.std.proofs.Common.{arith, ◌*◌, ◌∙◌, refl}
use Rattle.sha256_eights.proofs.Written.{more_written}
use Rattle.p3_hashes.proofs.Written.{lanes_written}
use Rattle.p3_hashes.proofs.eights.hash_eights.Goals as goal

pub loop-eight-preserved : goal.loop-eight-preserved
loop-eight-preserved g c =
    more_written c.loop-eight.invariant (lanes_written (8 * c.loop-eight.eight) 8 c.unpack_at.ensures.long
    (λ k h. c.unpack_at.ensures.lanes k h ∙ c.hash_eight-digests.ensures k h) c.unpack_at.ensures.before)
    (omega arith) refl (omega arith)
