use Rattle.std.proofs.Common.{◌≡◌, ◌-◌, map}
use Rattle.tlog_text.specs.Reading.{entry_by, many, never}
use Rattle.tlog_text.specs.Texts.{entry_fields}
use Rattle.tlog_text.proofs.ReadFacts.{onto}
use Rattle.tlog_text.proofs.entries.entry_list_by.Given as goal

abbrev pub invariant-loop-entry : goal.invariant-loop-entry
invariant-loop-entry l =
    many never entry_by l.count l.left
    ≡ onto (map entry_fields l.entries.items) (many never entry_by (l.count - l._entry) l.rest)
