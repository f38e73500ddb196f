use Rattle.std.proofs.Common.{◌∙◌, refl, arith}
use Rattle.sha256_eights.proofs.Lanewise.{lane_word}
use Rattle.sha256_eights.proofs.Written.{one_written}
use Rattle.sha256_eights.proofs.messages.load_padded_block.Goals as goal

pub loop-i-preserved : goal.loop-i-preserved
loop-i-preserved c =
    one_written c.padded_words.result c.loop-i.invariant (omega arith) refl (omega arith) c.padded_words.ensures

pub returns : goal.returns
returns c = λ j i below inside.
    lane_word j c.loop-i.block i ∙ c.loop-i.invariant.written i (omega arith) (omega arith) j below
