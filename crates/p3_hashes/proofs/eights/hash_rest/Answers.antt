use Rattle.std.proofs.Common.{arith, refl}
use Rattle.sha256_eights.proofs.Written.{one_written}
use Rattle.p3_hashes.proofs.eights.hash_rest.Goals as goal

pub loop-i-preserved : goal.loop-i-preserved
loop-i-preserved g c =
    one_written c.hash_words.result c.loop-i.invariant (omega arith) refl (omega arith) c.hash_words.ensures
