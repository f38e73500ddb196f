use Rattle.std.proofs.Common.{◌∙◌, refl, arith}
use Rattle.sha256_eights.proofs.Lanewise.{lane_word, splatted}
use Rattle.sha256_eights.proofs.Written.{one_written}
use Rattle.sha256_eights.proofs.messages.padding_block.Goals as goal

pub loop-i-preserved : goal.loop-i-preserved
loop-i-preserved c =
    one_written _ c.loop-i.invariant (omega arith) refl (omega arith)
    (λ m long j below. (splatted c.padding_word.result).each j below ∙ c.padding_word.ensures m long)

pub returns : goal.returns
returns c = λ m long j i below inside.
    lane_word j c.loop-i.block i ∙ c.loop-i.invariant.written i (omega arith) (omega arith) m long j below
