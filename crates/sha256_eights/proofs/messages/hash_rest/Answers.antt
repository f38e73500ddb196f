use Rattle.std.proofs.Common.{arith, refl, ◌∙◌}
use Rattle.sha256_eights.proofs.Written.{one_written}
use Rattle.sha256_eights.proofs.messages.hash_rest.Goals as goal

pub loop-i-preserved : goal.loop-i-preserved
loop-i-preserved g c =
    one_written c.array.result c.loop-i.invariant (omega arith) refl (omega arith)
    (c.array.ensures ∙ c.digest.ensures)
