-- A byte of the message, the mark after it, or a zero.
use Rattle.std.proofs.Common.{◌<◌, ◌+◌, ◌∙◌, sym, length, arith}
use Rattle.std.proofs.Math.Nat.{mul-le-mul_right}
use Rattle.sha256_eights.proofs.Padding.{length-message}
use Rattle.sha256_eights.specs.Messages.{message}
use Rattle.sha256_eights.proofs.Padding.{byte_at, byte_mark, byte_of_message, byte_zero, zeros, zeros_fill}
use Rattle.sha256_eights.proofs.messages.padded_byte.Goals as goal

pub overflow_mul-result : goal.overflow_mul-result
overflow_mul-result c = omega (arith, mul-le-mul_right c.args.width c.requires.lane)

pub overflow_add-result : goal.overflow_add-result
overflow_add-result c = omega (arith, mul-le-mul_right c.args.width c.requires.lane)

pub bounds-messages-j : goal.bounds-messages-j
bounds-messages-j c = omega (arith, mul-le-mul_right c.args.width c.requires.lane)

pub returns-then-at-width : goal.returns-then-at-width
returns-then-at-width c =
    let m = message c.args.width c.args.messages.now c.args.j in
    let long = length-message c.args.messages.now c.args.width 8 c.args.j c.requires.full c.requires.lane in
    sym (byte_of_message m c.args.at (omega (arith, long))
    ∙ byte_at c.args.width c.args.messages.now c.args.j c.args.at c.if-at-width.true)

pub returns-then-at-width-2 : goal.returns-then-at-width-2
returns-then-at-width-2 c =
    let long = length-message c.args.messages.now c.args.width 8 c.args.j c.requires.full c.requires.lane in
    sym (byte_mark (message c.args.width c.args.messages.now c.args.j) c.args.at (omega (arith, long)))

pub returns-else-at-width-2 : goal.returns-else-at-width-2
returns-else-at-width-2 c =
    let m = message c.args.width c.args.messages.now c.args.j in
    let long = length-message c.args.messages.now c.args.width 8 c.args.j c.requires.full c.requires.lane in
    let high : c.args.at < length m + 1 + zeros (length m) = rw long (omega (arith, zeros_fill c.args.width)) in
    sym (byte_zero m c.args.at (omega (arith, long)) high)
