-- The next entry is the first of those that are left, and the others are left then.
use Rattle.std.proofs.Common.{ap, arith, length, ◌∙◌}
use Rattle.std.specs.Option.{option_map}
use Rattle.tlog_text.specs.InPlace.{entries_from, entry_text_fields}
use Rattle.tlog_text.proofs.InPlaceFacts.{from_goes_on, from_stops, none_from}
use Rattle.tlog_text.proofs.entries_text.EntriesIterator.next.Goals as goal

pub returns-then-self-eq0-clause-steps : goal.returns-then-self-eq0-clause-steps
returns-then-self-eq0-clause-steps c =
    let none = ap (entries_from c.args.self.now.text.now) c.if-self-eq0.true ∙ none_from c.args.self.now.text.now in
    (none, none)

pub returns-in_err-entry-clause-steps : goal.returns-in_err-entry-clause-steps
returns-in_err-entry-clause-steps c =
    let left = c.args.self.now.text.now in
    let stopped = λ (n : _).
    from_stops left n _ (ap (option_map _) c.in_err-entry.was) c.next_entry.ensures in
    rw c.from_residual.ensures (stopped c.args.self.now.count, stopped c.args.self.now.count)

pub returns-clause-steps : goal.returns-clause-steps
returns-clause-steps c =
    from_goes_on c.args.self.now.text.now c.args.self.now.count (entry_text_fields c.in_ok-entry.entry)
    c.in_ok-entry.rest.now (omega (arith, c.if-self-eq0.false)) c.in_ok-entry.ensures

pub returns-clause-goes : goal.returns-clause-goes
returns-clause-goes c =
    let steps = from_goes_on c.args.self.now.text.now c.args.self.now.count (entry_text_fields c.in_ok-entry.entry)
    c.in_ok-entry.rest.now (omega (arith, c.if-self-eq0.false)) c.in_ok-entry.ensures in
    record { on = λ f. (tt, tt, omega (arith, ap length steps)); keeps = tt; rests = λ f. tt }
