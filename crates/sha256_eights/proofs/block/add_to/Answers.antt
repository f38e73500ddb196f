-- Sums of words and of the states, lane by lane.
use Rattle.sha256_eights.proofs.Lanewise.{lane_word}
use Rattle.sha256_eights.proofs.block.add_to.Goals as goal

pub returns : goal.returns
returns c = λ j below.
    rw (
      c.add.ensures j below,
      c.add-2.ensures j below,
      c.add-3.ensures j below,
      c.add-4.ensures j below,
      c.add-5.ensures j below,
      c.add-6.ensures j below,
      c.add-7.ensures j below,
      c.add-8.ensures j below,
    ) (simp lane_word)
