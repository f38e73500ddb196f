-- The sizes so far fit, so the refusal is that of the others.
use Rattle.std.proofs.Common.{◌≡◌, ◌<◌, ◌+◌, ◌-◌, ap, arith, get_or, length, suc, sym, ℕ, Option}
use Rattle.std.specs.List.{range_with_len}
use Rattle.std.specs.Option.{option_or}
use Rattle.p3_answers.proofs.AnswerFacts.{found_or, kept_or}
use Rattle.p3_answers.specs.Answers.{first_of, unless}
use Rattle.fohlazu_commands.specs.Outcomes.{part_refusal, sizes_refusal}
use Rattle.fohlazu_commands.specs.declared.error.Error.TheVariants.{Refused}
use Rattle.fohlazu_commands.specs.declared.error.Source.TheVariants.{Part}
use Rattle.fohlazu_commands.specs.declared.error.Refusal.TheVariants.{PartSize}
use Rattle.fohlazu_commands.proofs.join.check_part_sizes.Goals as goal

-- the refusal of a place among so many, else of those after it
next_place : {E : Type 0} (h : ℕ → Option E) (k n : ℕ) (total : Option E) → k < n →
    first_of h (range_with_len k (n - k)) ≡ total →
    option_or (h k) (first_of h (range_with_len (k + 1) (n - (k + 1)))) ≡ total
next_place h k n total within so_far = let more : n - k ≡ suc (n - (k + 1)) = omega arith in rw more at so_far

pub loop-k-preserved : goal.loop-k-preserved
loop-k-preserved c =
    let sizes = c.args.sizes.now in
    let k = c.loop-k.k in
    kept_or (part_refusal sizes k) _ (sizes_refusal sizes)
    (next_place (part_refusal sizes) k (length sizes) _ c.loop-k-test.true c.loop-k.invariant)
    (ap (λ b. unless b (Refused (Part k) (PartSize (get_or sizes k 0) (get_or sizes 0 0))))
    (sym c.if-not-is_part_size.ensures))

pub returns-then-not-is_part_size : goal.returns-then-not-is_part_size
returns-then-not-is_part_size c =
    let sizes = c.args.sizes.now in
    let k = c.loop-k.k in
    found_or (part_refusal sizes k) _ (sizes_refusal sizes) _
    (next_place (part_refusal sizes) k (length sizes) _ c.loop-k-test.true c.loop-k.invariant)
    (ap (λ b. unless b (Refused (Part k) (PartSize (get_or sizes k 0) (get_or sizes 0 0))))
    (sym c.if-not-is_part_size.ensures))
