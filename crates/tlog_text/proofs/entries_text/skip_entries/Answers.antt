-- What is read of the text is the entries so far, and then what is read of the rest.
use Rattle.std.proofs.Common.{◌∷◌, ◌++◌, [], refl, sym, ap, ◌∙◌}
use Rattle.std.proofs.lemmas.Result.{err_from_is_err_and}
use Rattle.tlog_text.specs.Inner.Rests.{rest_of}
use Rattle.tlog_text.specs.InPlace.{entry_text_fields}
use Rattle.tlog_text.specs.Reading.{entry_by, never}
use Rattle.tlog_text.proofs.ReadFacts.{many_ended, many_more, many_refused, many_start}
use Rattle.tlog_text.proofs.entries_text.skip_entries.Goals as goal

pub loop-entry-init : goal.loop-entry-init
loop-entry-init c = ([], many_start never entry_by c.args.count [] c.args.left.now refl)

pub returns-in_err-below : goal.returns-in_err-below
returns-in_err-below c =
    let (done, so_far) = c.loop-entry.invariant in
    let left = err_from_is_err_and c.from_residual.result c.from_residual.ensures.1 in
    rw (left.1, left.2)
    (sym (ap rest_of (so_far
    ∙ many_refused never entry_by c.args.count c.loop-entry._entry done c.loop-entry.rest.now
    c.in_err-below.field-0.0 c.loop-entry-test.true refl (sym c.in_err-below.ensures))))

pub loop-entry-preserved : goal.loop-entry-preserved
loop-entry-preserved c =
    let (done, so_far) = c.loop-entry.invariant in
    let entry = entry_text_fields c.in_ok-below.field-0-0 in (
      done ++ entry ∷ [],
      so_far
          ∙ many_more never entry_by c.args.count c.loop-entry._entry done c.loop-entry.rest.now entry
          c.in_ok-below.below.now c.loop-entry-test.true refl (sym c.in_ok-below.ensures),
    )

pub returns : goal.returns
returns c =
    let (done, so_far) = c.loop-entry.invariant in
    sym (ap rest_of (so_far
    ∙ many_ended never entry_by c.args.count c.loop-entry._entry done c.loop-entry.rest.now c.loop-entry-test.false))
