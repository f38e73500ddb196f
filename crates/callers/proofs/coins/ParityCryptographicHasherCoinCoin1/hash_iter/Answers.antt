use Rattle.std.proofs.Common.{rules, ap, ◌∷◌, []}
use Rattle.callers.specs.Coins.{sum}
use Rattle.callers.proofs.coins.ParityCryptographicHasherCoinCoin1.hash_iter.Goals as goal

pub returns : goal.returns
returns g c =
    let run = c.fold.ensures.runs in
    (run.0, run.1, run.2, ap (λ coin. coin ∷ []) (run.3 sum (search rules)))
