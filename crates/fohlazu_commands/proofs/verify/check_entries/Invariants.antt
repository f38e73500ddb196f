use Rattle.std.proofs.Common.{◌≡◌}
use Rattle.p3_answers.specs.Answers.{first_of}
use Rattle.tlog_text.specs.InPlace.{entries_left}
use Rattle.fohlazu_commands.specs.Outcomes.{entry_refusal}
use Rattle.fohlazu_commands.proofs.verify.check_entries.Given as goal

-- the entries so far are not refused, so the rest decides
abbrev pub invariant-loop-entry : goal.invariant-loop-entry
invariant-loop-entry l =
    first_of (entry_refusal l.print l.size) (entries_left l.entry-iterator)
    ≡ first_of (entry_refusal l.print l.size) (entries_left l.fn.entries)
