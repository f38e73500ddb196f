use Rattle.std.proofs.Common.{◌≡◌, ◌-◌, List, ℕ}
use Rattle.tlog_text.proofs.ReadFacts.{onto}
use Rattle.tlog_text.specs.Reading.{at_text_end, line_that, many}
use Rattle.tlog_text.proofs.line.skip_lines.Given as goal

abbrev pub invariant-loop-line : goal.invariant-loop-line
invariant-loop-line l =
    (done : List (List ℕ)) × (many at_text_end (line_that l.expected) l.limit l.left
    ≡ onto done (many at_text_end (line_that l.expected) (l.limit - l._line) l.rest))
