use Rattle.std.proofs.Common.{sym, ◌∙◌}
use Rattle.tlog_text.proofs.TestFacts.{no_text}
use Rattle.tlog_text.proofs.line.parse_number.Goals as goal

-- digits are text
pub returns-in_err-ok : goal.returns-in_err-ok
returns-in_err-ok c =
    rw c.from_residual.ensures
    (no_text _ _ c.args.digits.now c.from_utf8.result (sym c.ok.ensures.value ∙ c.in_err-ok.was)
    c.from_utf8.ensures.cases)
