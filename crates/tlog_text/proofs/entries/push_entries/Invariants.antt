use Rattle.std.proofs.Common.{◌≡◌, ◌++◌, map, take}
use Rattle.std.specs.Prelude.{flat_map}
use Rattle.tlog_text.specs.Texts.{entry_fields, entry_lines}
use Rattle.tlog_text.proofs.entries.push_entries.Given as goal

abbrev pub invariant-loop-entry : goal.invariant-loop-entry
invariant-loop-entry l = l.text.items
    ≡ l.fn.text.items ++ flat_map entry_lines (map entry_fields (take l.entry-index l.entries))
