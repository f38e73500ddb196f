-- What is read of the text is the digests so far, and then what is read of the rest up to its blank line.
use Rattle.std.proofs.Common.{◌+◌, ◌-◌, List, ℕ, ap, inr, sym, ◌∙◌}
use Rattle.std.proofs.lemmas.Result.{err_from_is_err_and}
use Rattle.tlog_text.specs.Lines.{digest_of}
use Rattle.tlog_text.specs.Reading.{Reads, at_blank, digests_to_blank, line_by, many}
use Rattle.tlog_text.specs.declared.error.Expected.TheVariants.{DigestOrBlank}
use Rattle.tlog_text.proofs.ReadFacts.{many_ended, many_more, many_refused, many_start, many_stopped, onto}
use Rattle.tlog_text.proofs.line.read_digests_to_blank.Goals as goal

abbrev read : List ℕ → Reads (List ℕ)
read = line_by DigestOrBlank digest_of

pub loop-digest-init : goal.loop-digest-init
unfolding digests_to_blank
loop-digest-init c =
    many_start at_blank read c.args.limit c.new-digests.result.items c.args.left.now c.new-digests.ensures.items

pub returns-then-at_blank-clause-read : goal.returns-then-at_blank-clause-read
returns-then-at_blank-clause-read c =
    c.loop-digest.invariant
    ∙ many_stopped at_blank read c.args.limit c.loop-digest._digest c.loop-digest.digests.items c.loop-digest.rest.now
    (sym c.at_blank.ensures ∙ c.if-at_blank.true)

pub returns-in_err-digest-clause-stop : goal.returns-in_err-digest-clause-stop
returns-in_err-digest-clause-stop c =
    let left = err_from_is_err_and c.from_residual.result c.from_residual.ensures.1 in
    rw (left.1, left.2)
    (inr (c.loop-digest.invariant
    ∙ many_refused at_blank read c.args.limit c.loop-digest._digest c.loop-digest.digests.items c.loop-digest.rest.now
    c.in_err-digest.field-0.0 c.loop-digest-test.true (sym c.at_blank.ensures ∙ c.if-at_blank.false)
    (sym c.in_err-digest.ensures)))

pub loop-digest-preserved : goal.loop-digest-preserved
loop-digest-preserved c =
    c.loop-digest.invariant
    ∙ many_more at_blank read c.args.limit c.loop-digest._digest c.loop-digest.digests.items c.loop-digest.rest.now
    c.in_ok-digest.digest c.in_ok-digest.below.now c.loop-digest-test.true
    (sym c.at_blank.ensures ∙ c.if-at_blank.false) (sym c.in_ok-digest.ensures)
    ∙ ap (λ ds. onto ds (many at_blank read (c.args.limit - (c.loop-digest._digest + 1)) c.in_ok-digest.below.now))
    (sym c.in_ok-push.ensures.items)

pub returns-clause-read : goal.returns-clause-read
returns-clause-read c =
    c.loop-digest.invariant
    ∙ many_ended at_blank read c.args.limit c.loop-digest._digest c.loop-digest.digests.items c.loop-digest.rest.now
    c.loop-digest-test.false
