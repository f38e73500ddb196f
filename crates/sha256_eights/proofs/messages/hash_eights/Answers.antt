use Rattle.std.proofs.Common.{arith, refl}
use Rattle.sha256_eights.proofs.Written.{more_written}
use Rattle.sha256_eights.proofs.messages.hash_eights.Goals as goal

pub loop-eight-preserved : goal.loop-eight-preserved
loop-eight-preserved g c =
    more_written c.loop-eight.invariant c.hash_eight.ensures (omega arith) refl (omega arith)
