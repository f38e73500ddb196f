use Rattle.std.proofs.Common.{◌≡◌, ◌++◌, flat_map}
use Rattle.tlog_text.specs.InPlace.{entries_left}
use Rattle.fohlazu_commands.specs.Outcomes.{printed}
use Rattle.fohlazu_commands.proofs.verify.text_of.Given as goal

abbrev pub invariant-loop-entry : goal.invariant-loop-entry
invariant-loop-entry l =
    l.text.items ++ flat_map (printed l.print l.is_requested) (entries_left l.entry-iterator)
    ≡ flat_map (printed l.print l.is_requested) (entries_left l.fn.entries)
