-- Lane by lane, the sum is the standard's.
use Rattle.std.proofs.Common.{refl}
use Rattle.sha256_eights.proofs.block.schedule_word.Goals as goal

pub returns : goal.returns
returns c = λ j below.
    rw (
      c.add-3.ensures j below,
      c.add-2.ensures j below,
      c.add.ensures j below,
      c.small_sigma1.ensures j below,
      c.small_sigma0.ensures j below,
    ) refl
