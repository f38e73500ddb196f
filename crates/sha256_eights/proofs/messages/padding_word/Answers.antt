-- The mark, a zero, or half of the length.
use Rattle.std.proofs.Common.{◌≡◌, ◌+◌, ◌*◌, ◌/◌, ◌%◌, ◌^◌, ◌<◌, ◌≤◌, ◌∙◌, arith, length, refl, sym}
use Rattle.sha256_eights.proofs.Padding.{word_high, word_low, word_mark, word_zero}
use Rattle.sha256_eights.proofs.messages.padding_word.Goals as goal

pub returns-then-at-width : goal.returns-then-at-width
returns-then-at-width c = λ m long. sym (word_mark m c.args.n (c.if-at-width.true ∙ sym long))

pub returns-then-at-end : goal.returns-then-at-end
returns-then-at-end c = λ m long.
    let at = 4 * c.args.n in
    let low : length m < at = rw long (omega arith) in
    let high : at + 12 ≤ 64 * ((length m + 72) / 64) = rw long (omega arith) in
    sym (word_zero m at low high)

pub returns-then-at-end-2 : goal.returns-then-at-end-2
returns-then-at-end-2 c = λ m long.
    let at = 4 * c.args.n in
    let end : at + 8 ≡ 64 * ((length m + 72) / 64) = rw long (omega arith) in
    sym (word_high m at (c.args.width * 8 % 2 ^ 64) (rw long refl) end)

pub returns : goal.returns
returns c = λ m long.
    let at = 4 * c.args.n in
    let end : at + 4 ≡ 64 * ((length m + 72) / 64) = rw long (omega arith) in
    sym (word_low m at (c.args.width * 8 % 2 ^ 64) (rw long refl) end)
