use Rattle.std.proofs.Common.{◌≡◌, ◌+◌, ◌*◌, ◌∙◌, ap, arith}
use Rattle.sha2.specs.Sha256.{word_at}
use Rattle.sha256_eights.proofs.Lanewise.{each_lane}
use Rattle.sha256_eights.proofs.messages.words.Goals as goal

pub returns : goal.returns
returns c =
    let at = c.args.at in
    let w = c.args.width in
    let zeroth : at ≡ 0 * w + at = omega arith in
    let first : w + at ≡ 1 * w + at = omega arith in
    each_lane _ (c.word.ensures ∙ ap (word_at c.args.messages.now) zeroth)
    (c.word-2.ensures ∙ ap (word_at c.args.messages.now) first) c.word-3.ensures c.word-4.ensures c.word-5.ensures
    c.word-6.ensures c.word-7.ensures c.word-8.ensures
