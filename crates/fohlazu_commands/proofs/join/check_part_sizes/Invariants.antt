use Rattle.std.proofs.Common.{◌≡◌, ◌-◌, length}
use Rattle.std.specs.List.{range_with_len}
use Rattle.p3_answers.specs.Answers.{first_of}
use Rattle.fohlazu_commands.specs.Outcomes.{part_refusal, sizes_refusal}
use Rattle.fohlazu_commands.proofs.join.check_part_sizes.Given as goal

-- the sizes so far fit, so the rest decides
abbrev pub invariant-loop-k : goal.invariant-loop-k
invariant-loop-k l =
    first_of (part_refusal l.sizes) (range_with_len l.k (length l.sizes - l.k)) ≡ sizes_refusal l.sizes
