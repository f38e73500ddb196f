-- Each return is one reason why digits are no number, and the last one has the number.
use Rattle.std.proofs.Common.{◌≡◌, ◌<◌, ◌∙◌, length, get_or, arith}
use Rattle.tlog_text.proofs.TestFacts.{leading_zero, not_parsed, parsed}
use Rattle.tlog_text.proofs.line.number_of.Goals as goal
use Rattle.tlog_text.proofs.line.number_of.Goals.{else-digits-gt1-via-else-digits-gt1}
use Rattle.tlog_text.proofs.line.number_of.Goals.{else-digits-gt1-via-then-digits-gt1+else-digits-eq48}

pub returns-then-digits-eq48 : goal.returns-then-digits-eq48
returns-then-digits-eq48 c =
    leading_zero c.args.digits.now (omega (arith, c.if-digits-gt1.true)) c.if-digits-eq48.true

pub returns-in_err-number : goal.returns-in_err-number
returns-in_err-number c =
    rw c.from_residual.ensures
    (not_parsed c.args.digits.now c.parse_number.result c.parse_number.ensures c.in_err-number.was)

pub returns : goal.returns
returns c =
    let free : 1 < length c.args.digits.now → get_or c.args.digits.now 0 0 ≡ 48 → _ =
    elim c.else-digits-gt1.branch [
      | else-digits-gt1-via-then-digits-gt1+else-digits-eq48 w ↦ λ long first. w.if-digits-eq48.false first
      | else-digits-gt1-via-else-digits-gt1 w ↦
          λ long first. absurd (omega (arith, long, w.if-digits-gt1.false))
    ] in
    c.then_some.ensures
    ∙ parsed c.args.digits.now c.parse_number.result c.in_ok-number.number c.parse_number.ensures c.in_ok-number.was
    free
