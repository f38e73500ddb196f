use Rattle.std.proofs.Common.{sym, ◌∙◌}
use Rattle.tlog_text.proofs.LineFacts.{no_origin}
use Rattle.tlog_text.proofs.checkpoint.origin_of.Goals as goal

pub returns-in_err-text : goal.returns-in_err-text
returns-in_err-text c =
    rw c.from_residual.ensures
    (no_origin _ _ c.from_utf8.result c.args.line.now (sym c.ok.ensures.value ∙ c.in_err-text.was)
    c.from_utf8.ensures.cases)
