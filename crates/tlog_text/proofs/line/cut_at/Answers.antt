-- The text is cut at the first place of the mark, if there is one.
use Rattle.std.proofs.Common.{rules, ◌≡◌, ◌==◌, position}
use Rattle.std.proofs.lemmas.Iterator.{YieldsList-from_slice}
use Rattle.std.proofs.lemmas.Iterator.Search.{position_from_yields_List}
use Rattle.tlog_text.proofs.TestFacts.{cut_none, cut_some}
use Rattle.tlog_text.proofs.line.cut_at.Goals.{After-position}
use Rattle.tlog_text.proofs.line.cut_at.Goals as goal

place : (c : After-position) → c.position.result ≡ position (λ b. b == c.args.mark) c.args.bytes.now
place c =
    position_from_yields_List (λ b. b == c.args.mark) _ _ c.position.result c.position.ensures.ran
    (YieldsList-from_slice c.args.bytes.now c.iter.ensures.rest) (λ x b q called. search rules)

pub returns-in_err-at : goal.returns-in_err-at
returns-in_err-at c =
    rw c.from_residual.ensures
    (cut_none c.args.mark c.args.bytes.now c.position.result (place (goal.at.returns-in_err-at c).After-position)
    c.in_err-at.was)

pub returns : goal.returns
returns c =
    cut_some c.args.mark c.args.bytes.now c.position.result c.in_ok-at.at
    (place (goal.at.returns c).After-position) c.in_ok-at.was
