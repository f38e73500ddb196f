-- The sum in each lane is the schedule's next word, and it stands in place of the oldest.
use Rattle.std.proofs.Common.{◌≡◌, ℕ, List, ◌%◌, arith, slice_index}
use Rattle.std.proofs.lemmas.List.{map-set}
use Rattle.sha256_eights.proofs.Lanewise.{lane_word}
use Rattle.sha256_eights.proofs.block.next_word.Goals as goal

pub returns-clause-value : goal.returns-clause-value
returns-clause-value c = λ j below.
    let p = c.args.place in
    let place : p % 16 ≡ p = omega arith in
    rw (
      c.schedule_word-word.ensures j below,
      place,
    ) (simp lane_word)

pub returns-clause-window : goal.returns-clause-window
returns-clause-window c = λ j below. map-set (λ (v : List ℕ). slice_index v j) c.args.w.now c.args.place
    c.schedule_word-word.result
