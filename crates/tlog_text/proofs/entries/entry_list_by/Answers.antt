-- What is read of the text is the entries so far, and then what is read of the rest.
use Rattle.std.proofs.Common.{⊎_elim, ◌+◌, ◌-◌, ◌∷◌, [], ap, inl, inr, map, refl, sym, ◌∙◌}
use Rattle.std.proofs.lemmas.List.{map-append}
use Rattle.std.proofs.lemmas.Result.{err_from_is_err_and}
use Rattle.tlog_text.specs.Reading.{entry_by, many, never}
use Rattle.tlog_text.specs.Texts.{entry_fields}
use Rattle.tlog_text.proofs.ReadFacts.{many_ended, many_more, many_refused, onto}
use Rattle.tlog_text.proofs.entries.entry_list_by.Goals as goal

pub loop-entry-preserved : goal.loop-entry-preserved
loop-entry-preserved c =
    let done = c.loop-entry.entries.items in
    let i = c.loop-entry._entry in
    let entry = c.in_ok-entry.entry in
    c.loop-entry.invariant
    ∙ many_more never entry_by c.args.count i (map entry_fields done) c.loop-entry.rest.now (entry_fields entry)
    c.in_ok-entry.below.now c.loop-entry-test.true refl c.in_ok-entry.ensures.read
    ∙ ap (λ es. onto es (many never entry_by (c.args.count - (i + 1)) c.in_ok-entry.below.now))
    (sym (ap (map entry_fields) c.in_ok-push.ensures.items ∙ map-append entry_fields done (entry ∷ [])))

pub returns-in_err-entry-clause-stop : goal.returns-in_err-entry-clause-stop
returns-in_err-entry-clause-stop c =
    let left = err_from_is_err_and c.from_residual.result c.from_residual.ensures.1 in
    rw (left.1, left.2)
    (⊎_elim (λ memory. inl memory)
    (λ stop. inr (c.loop-entry.invariant
    ∙ many_refused never entry_by c.args.count c.loop-entry._entry (map entry_fields c.loop-entry.entries.items)
    c.loop-entry.rest.now c.in_err-entry.field-0.0 c.loop-entry-test.true refl stop)) c.in_err-entry.ensures.stop)

pub returns-clause-read : goal.returns-clause-read
returns-clause-read c =
    c.loop-entry.invariant
    ∙ many_ended never entry_by c.args.count c.loop-entry._entry (map entry_fields c.loop-entry.entries.items)
    c.loop-entry.rest.now c.loop-entry-test.false
