use Rattle.std.proofs.Common.{◌≡◌, drop}
use Rattle.p3_answers.specs.Answers.{first_of}
use Rattle.fohlazu_commands.specs.Outcomes.{number_refusal}
use Rattle.fohlazu_commands.proofs.prove.check_numbers.Given as goal

-- the numbers so far are not refused, so the rest decides
abbrev pub invariant-loop-number : goal.invariant-loop-number
invariant-loop-number l =
    first_of (number_refusal l.size) (drop l.number-index l.numbers) ≡ first_of (number_refusal l.size) l.numbers
