-- A word of a padded message is one of the message, or of its padding alone; search proves the case of a word with
-- bytes of both.
use Rattle.std.proofs.Common.{◌+◌, ◌*◌, ◌∙◌, sym, arith}
use Rattle.sha256_eights.proofs.Padding.{length-message}
use Rattle.sha256_eights.specs.Messages.{message}
use Rattle.sha256_eights.proofs.Lanewise.{splatted}
use Rattle.sha256_eights.proofs.Padding.{byte_of_message, word_among, word_same}
use Rattle.sha256_eights.proofs.messages.padded_words.Goals as goal

pub returns-then-at-width : goal.returns-then-at-width
returns-then-at-width c = λ j below.
    let w = c.args.width in
    let bytes = c.args.messages.now in
    let at = 4 * c.args.n in
    let long = length-message bytes w 8 j c.requires.full below in
    c.words.ensures j below ∙ word_among w bytes j at (omega arith)
    ∙ word_same _ _ at at (λ i four. sym (byte_of_message (message w bytes j) (at + i) (omega (arith, long))))

pub returns : goal.returns
returns c = λ j below.
    (splatted c.padding_word.result).each j below
    ∙ c.padding_word.ensures _ (length-message c.args.messages.now c.args.width 8 j c.requires.full below)
