-- What is read of the text is the digests so far, and then what is read of the rest.
use Rattle.std.proofs.Common.{◌+◌, ◌-◌, List, ℕ, ap, inr, refl, sym, ◌∙◌}
use Rattle.std.proofs.lemmas.Result.{err_from_is_err_and}
use Rattle.tlog_text.specs.Lines.{digest_of}
use Rattle.tlog_text.specs.Reading.{Reads, digests_by, line_by, many, never}
use Rattle.tlog_text.specs.declared.error.Expected.TheVariants.{Digest}
use Rattle.tlog_text.proofs.ReadFacts.{many_ended, many_more, many_refused, many_start, onto}
use Rattle.tlog_text.proofs.line.read_digests.Goals as goal

abbrev read : List ℕ → Reads (List ℕ)
read = line_by Digest digest_of

pub loop-digest-init : goal.loop-digest-init
unfolding digests_by
loop-digest-init c =
    many_start never read c.args.count c.new-digests.result.items c.args.left.now c.new-digests.ensures.items

pub returns-in_err-digest-clause-stop : goal.returns-in_err-digest-clause-stop
returns-in_err-digest-clause-stop c =
    let left = err_from_is_err_and c.from_residual.result c.from_residual.ensures.1 in
    rw (left.1, left.2)
    (inr (c.loop-digest.invariant
    ∙ many_refused never read c.args.count c.loop-digest._digest c.loop-digest.digests.items c.loop-digest.rest.now
    c.in_err-digest.field-0.0 c.loop-digest-test.true refl (sym c.in_err-digest.ensures)))

pub loop-digest-preserved : goal.loop-digest-preserved
loop-digest-preserved c =
    c.loop-digest.invariant
    ∙ many_more never read c.args.count c.loop-digest._digest c.loop-digest.digests.items c.loop-digest.rest.now
    c.in_ok-digest.digest c.in_ok-digest.below.now c.loop-digest-test.true refl (sym c.in_ok-digest.ensures)
    ∙ ap (λ ds. onto ds (many never read (c.args.count - (c.loop-digest._digest + 1)) c.in_ok-digest.below.now))
    (sym c.in_ok-push.ensures.items)

pub returns-clause-read : goal.returns-clause-read
returns-clause-read c =
    c.loop-digest.invariant
    ∙ many_ended never read c.args.count c.loop-digest._digest c.loop-digest.digests.items c.loop-digest.rest.now
    c.loop-digest-test.false
