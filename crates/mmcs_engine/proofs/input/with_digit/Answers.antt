-- One more digit makes a number, unless it is no digit, or the number becomes too great.
use Rattle.std.proofs.Common.{◌+◌, arith}
use Rattle.mmcs_engine.proofs.RowFacts.{in_range, no_digit, not_in_range, number_more, too_large}
use Rattle.mmcs_engine.proofs.input.with_digit.Goals as goal

pub returns-then-not-is_ascii_digit-clause-none : goal.returns-then-not-is_ascii_digit-clause-none
returns-then-not-is_ascii_digit-clause-none c = λ digits more read. no_digit (c.args.max + 1) digits c.args.before
    c.args.digit read more
    (not_in_range c.args.digit c.is_ascii_digit.result c.is_ascii_digit.ensures.cases c.if-not-is_ascii_digit.true)

pub returns-then-number-from-clause-some : goal.returns-then-number-from-clause-some
returns-then-number-from-clause-some c = λ digits read.
    number_more (c.args.max + 1) digits c.args.before c.args.digit read _
    (in_range c.args.digit c.is_ascii_digit.result c.is_ascii_digit.ensures.cases c.if-not-is_ascii_digit.false)
    (omega (arith, c.unwrap_or.ensures, c.from.ensures, c.from-2.ensures))
    (omega (arith, c.if-number-from.true, c.from-3.ensures))

pub returns-else-number-from-clause-none : goal.returns-else-number-from-clause-none
returns-else-number-from-clause-none c = λ digits more read.
    too_large (c.args.max + 1) digits c.args.before c.args.digit read more
    (in_range c.args.digit c.is_ascii_digit.result c.is_ascii_digit.ensures.cases c.if-not-is_ascii_digit.false)
    (omega (arith, c.unwrap_or.ensures, c.from.ensures, c.from-2.ensures, c.if-number-from.false, c.from-3.ensures))
