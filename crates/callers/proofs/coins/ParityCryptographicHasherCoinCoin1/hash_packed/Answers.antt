-- A coin is alone in its lane.
use Rattle.std.proofs.Common.{◌∙◌, ap, sym}
use Rattle.p3_support.proofs.LaneReads.{only_lane}
use Rattle.callers.specs.Coins.{parity}
use Rattle.callers.specs.declared.coins.Coin.TheVariants.{Heads}
use Rattle.callers.proofs.coins.ParityCryptographicHasherCoinCoin1.hash_packed.Goals as goal

pub returns : goal.returns
returns g c =
    let run = c.hash_iter.ensures in (
      run.0,
      run.1,
      run.2,
      λ k below same. only_lane Heads k c.hash_iter.result below ∙ run.3
          ∙ ap parity (sym (only_lane Heads k run.0.items below)),
    )
