use Rattle.std.proofs.Common.{◌≡◌, ◌-◌, List}
use Rattle.tlog_text.specs.Reading.{entry_by, many, never}
use Rattle.tlog_text.specs.Texts.{EntryFields}
use Rattle.tlog_text.proofs.ReadFacts.{onto}
use Rattle.tlog_text.proofs.entries_text.skip_entries.Given as goal

abbrev pub invariant-loop-entry : goal.invariant-loop-entry
invariant-loop-entry l =
    (done : List EntryFields) × (many never entry_by l.count l.left
    ≡ onto done (many never entry_by (l.count - l._entry) l.rest))
