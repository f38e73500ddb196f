-- Whether an odd number of coins show tails.
use Rattle.std.specs.Prelude.{List, [], ◌∷◌, fold}
use Rattle.std.specs.List.{flat_map}
use Rattle.callers.specs.declared.coins.Coin.{Coin}
use Rattle.callers.specs.declared.coins.Coin.TheVariants.{Heads, Tails}

-- tails if one of two coins shows tails
abbrev pub sum : Coin → Coin → Coin
sum Heads coin = coin
sum Tails Heads = Tails
sum Tails Tails = Heads

-- the digest of a row: tails if an odd number of its coins show tails
abbrev pub parity : List Coin → List Coin
parity coins = fold sum Heads coins ∷ []

-- the digest of digests: that of all their coins
abbrev pub joint_parity : List (List Coin) → List Coin
joint_parity digests = parity (flat_map (λ digest. digest) digests)
