-- Lane by lane, the round is the standard's.
use Rattle.sha256_eights.proofs.Lanewise.{lane_word, splatted}
use Rattle.sha256_eights.proofs.block.round.Goals as goal

pub returns : goal.returns
returns c = λ j below.
    rw (
      c.add-4.ensures j below,
      c.add-5.ensures j below,
      c.add-temp1.ensures j below,
      c.add-temp2.ensures j below,
      c.add-3.ensures j below,
      c.add-2.ensures j below,
      c.add.ensures j below,
      c.ch.ensures j below,
      c.big_sigma1.ensures j below,
      c.big_sigma0.ensures j below,
      c.maj.ensures j below,
      (splatted c.args.k).each j below,
    ) (simp lane_word)
