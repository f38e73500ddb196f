-- Adding up slice by slice gives the sum of all coins.
use Rattle.std.proofs.Common.{rules, ◌≡◌, List, [], ◌∷◌, ◌∙◌, ap, refl, sym}
use Rattle.std.specs.List.{flat_map, fold}
use Rattle.std.proofs.lemmas.List.Sums.{fold-append}
use Rattle.callers.specs.Coins.{sum}
use Rattle.callers.specs.declared.coins.Coin.{Coin}
use Rattle.callers.specs.declared.coins.Coin.TheVariants.{Heads}
use Rattle.callers.proofs.coins.ParityCryptographicHasherCoinCoin1.hash_iter_slices.Goals as goal

-- slice by slice is coin by coin
joined : {S : Type 0} (items : S → List Coin) (so_far : Coin) (xs : List S)
    → fold (λ c x. fold sum c (items x)) so_far xs ≡ fold sum so_far (flat_map items xs)
joined items so_far [] = refl
joined items so_far (x ∷ xs) = joined items (fold sum so_far (items x)) xs
    ∙ sym (fold-append sum so_far (items x) (flat_map items xs))

pub returns : goal.returns
returns g c =
    let run = c.fold.ensures.runs in
    let items = g.S.AsSlice.items in
    let by_slices = run.3 (λ so_far coins. fold sum so_far (items coins)) (search rules) in
    (run.0, run.1, run.2, ap (λ coin. coin ∷ []) (by_slices ∙ joined items Heads run.0.items))
