use Rattle.std.proofs.Common.{◌≡◌, Some}
use Rattle.tlog_text.specs.InPlace.{entries_left}
use Rattle.fohlazu_commands.specs.Outcomes.{numbers_refusal}
use Rattle.fohlazu_commands.proofs.verify.check_numbers.Given as goal

-- the entries so far are the requested ones, so the rest decides
abbrev pub invariant-loop-entry : goal.invariant-loop-entry
invariant-loop-entry l =
    numbers_refusal (Some l.rest) (entries_left l.entry-iterator)
    ≡ numbers_refusal (Some l.numbers) (entries_left l.fn.entries)
