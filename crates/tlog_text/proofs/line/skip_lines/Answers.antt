-- What is read of the text is the lines so far, and then what is read of the rest up to its blank line or its end.
use Rattle.std.proofs.Common.{◌∷◌, ◌++◌, [], refl, sym, ap, ◌∙◌}
use Rattle.std.proofs.lemmas.Bool.{or_from, or_left, or_right}
use Rattle.std.proofs.lemmas.Result.{err_from_is_err_and}
use Rattle.tlog_text.specs.Reading.{at_blank, at_end, at_text_end, line_that}
use Rattle.tlog_text.proofs.ReadFacts.{many_ended, many_more, many_refused, many_start, many_stopped, rest_err, rest_ok}
use Rattle.tlog_text.proofs.line.skip_lines.Goals.{then-is_empty-via-else-is_empty+then-at_blank}
use Rattle.tlog_text.proofs.line.skip_lines.Goals.{then-is_empty-via-then-is_empty}
use Rattle.tlog_text.specs.Inner.Rests.{rest_of}
use Rattle.tlog_text.proofs.line.skip_lines.Goals as goal

pub loop-line-init : goal.loop-line-init
loop-line-init c =
    ([], many_start at_text_end (line_that c.args.expected) c.args.limit [] c.args.left.now refl)

pub returns-then-is_empty : goal.returns-then-is_empty
returns-then-is_empty c =
    let rest = c.loop-line.rest.now in
    let (done, so_far) = c.loop-line.invariant in
    sym (ap rest_of (so_far
    ∙ many_stopped at_text_end (line_that c.args.expected) c.args.limit c.loop-line._line done rest
    (elim c.then-is_empty.branch [
      | then-is_empty-via-then-is_empty w ↦ or_left (at_end rest) (at_blank rest)
          (sym c.is_empty.ensures ∙ w.if-is_empty.true)
      | then-is_empty-via-else-is_empty+then-at_blank w ↦
          or_right (at_end rest) (at_blank rest) (sym w.at_blank.ensures ∙ w.if-at_blank.true)
    ])))

pub returns-in_err-rest : goal.returns-in_err-rest
returns-in_err-rest c =
    let rest = c.loop-line.rest.now in
    let (done, so_far) = c.loop-line.invariant in
    let left = err_from_is_err_and c.from_residual.result c.from_residual.ensures.1 in
    rw (left.1, left.2)
    (sym (ap rest_of (so_far
    ∙ many_refused at_text_end (line_that c.args.expected) c.args.limit c.loop-line._line done rest
    c.in_err-rest.field-0.0 c.loop-line-test.true
    (or_from (at_end rest) (at_blank rest) (sym c.is_empty.ensures ∙ c.if-is_empty.false)
    (sym c.at_blank.ensures ∙ c.if-at_blank.false))
    (rest_err (line_that c.args.expected rest) _ (sym c.in_err-rest.ensures)))))

pub loop-line-preserved : goal.loop-line-preserved
loop-line-preserved c =
    let rest = c.loop-line.rest.now in
    let (done, so_far) = c.loop-line.invariant in
    let (line, read) = rest_ok (line_that c.args.expected rest) c.in_ok-rest.rest.now (sym c.in_ok-rest.ensures) in (
      done ++ line ∷ [],
      so_far
          ∙ many_more at_text_end (line_that c.args.expected) c.args.limit c.loop-line._line done rest line
          c.in_ok-rest.rest.now c.loop-line-test.true
          (or_from (at_end rest) (at_blank rest) (sym c.is_empty.ensures ∙ c.if-is_empty.false)
          (sym c.at_blank.ensures ∙ c.if-at_blank.false)) read,
    )

pub returns : goal.returns
returns c =
    let (done, so_far) = c.loop-line.invariant in
    sym (ap rest_of (so_far
    ∙ many_ended at_text_end (line_that c.args.expected) c.args.limit c.loop-line._line done c.loop-line.rest.now
    c.loop-line-test.false))
