-- A coin is alone in its lane.
use Rattle.std.proofs.Common.{◌∙◌, ap, sym}
use Rattle.p3_support.proofs.LaneReads.{only_lane, only_lanes}
use Rattle.callers.specs.Coins.{joint_parity}
use Rattle.callers.specs.declared.coins.Coin.TheVariants.{Heads}
use Rattle.callers.proofs.coins.ParityPseudoCompressionFunctionCoin21.compress_packed.Goals as goal

pub returns : goal.returns
returns c = λ k below. only_lane Heads k c.compress.result below ∙ c.compress.ensures
    ∙ ap joint_parity (sym (only_lanes Heads k c.args.input below))
