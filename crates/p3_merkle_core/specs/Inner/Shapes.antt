-- The least height, and how many slots of a layer are grouped.
use Rattle.std.specs.Prelude.{ℕ, min, List, [], ◌∷◌}
use Rattle.p3_support.specs.Batches.{greatest}
use Rattle.p3_merkle_core.specs.Geometry.{Shape, grouped_len_of, layer_exponent, raw_len}

-- the least of m and some heights
abbrev pub least_height : ℕ → List ℕ → ℕ
least_height m [] = m
least_height m (h ∷ hs) = min h (least_height m hs)

-- the least height, and 0 of none
abbrev pub shortest : List ℕ → ℕ
shortest hs = least_height (greatest hs) hs

-- how many slots of layer l are grouped into nodes of layer l + 1
abbrev pub grouped_len : Shape → ℕ → ℕ
grouped_len s l = grouped_len_of s (layer_exponent s l) (raw_len s l)
