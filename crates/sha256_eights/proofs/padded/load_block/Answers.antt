-- Each turn loads one word of each message.
use Rattle.std.proofs.Common.{◌≡◌, ◌+◌, ◌*◌, ◌∙◌, ap, refl, arith}
use Rattle.sha2.specs.Sha256.{word_at}
use Rattle.sha256_eights.specs.Messages.{message}
use Rattle.sha256_eights.proofs.Lanewise.{lane_word}
use Rattle.sha256_eights.proofs.Padding.{word_among}
use Rattle.sha256_eights.proofs.Written.{one_written}
use Rattle.sha256_eights.proofs.padded.load_block.Goals as goal

pub loop-i-preserved : goal.loop-i-preserved
loop-i-preserved c =
    let w = c.args.width in
    let bytes = c.args.messages.now in
    let at = 64 * c.args.t + 4 * c.loop-i.i in
    let place : at ≡ 4 * (16 * c.args.t + c.loop-i.i) = omega arith in
    one_written c.words.result c.loop-i.invariant (omega arith) refl (omega arith)
    (λ j below. c.words.ensures j below ∙ word_among w bytes j at (omega (arith, c.requires.inside))
    ∙ ap (word_at (message w bytes j)) place)

pub returns : goal.returns
returns c = λ j i below inside.
    lane_word j c.loop-i.block i ∙ c.loop-i.invariant.written i (omega arith) (omega arith) j below
