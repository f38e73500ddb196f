use Rattle.std.proofs.Common.{refl, sym}
use Rattle.sha2.proofs.Schedule256.{rounds_first}
use Rattle.sha256_eights.specs.Inner.Lanes.{lane}
use Rattle.sha256_eights.proofs.Lanewise.{lane_word}
use Rattle.sha256_eights.proofs.block.block_round.Goals as goal

pub returns : goal.returns
returns c = λ j below b h window held.
    rounds_first b h (lane j c.args.w.now) (lane j c.args.v) c.args.t _ _ _ c.requires window held refl
    (sym (lane_word j c.args.w.now c.args.t)) (c.round.ensures j below)
