-- The shape of a tree: exponents of heights, the ladder of lawful heights, steps, lengths, ancestors. Layer 0 has the
-- leaves, and level l leads from layer l to layer l + 1.
use Rattle.std.specs.Prelude.{◌≡◌, ℕ, zero, suc, ◌+◌, ◌-◌, ◌*◌, ◌/◌, ◌%◌, ◌^◌, ◌<◌, ◌≤◌, Bool, true, false, ◌&&◌, ◌==◌}
use Rattle.std.specs.Prelude.{nat_lt, nat_le, if◌then◌else◌, List, map, All}
use Rattle.std.specs.List.{list_any, range_with_len}
use Rattle.std.specs.Int.{next_multiple_of}
use Rattle.p3_support.specs.declared.matrix.Dimensions.{Dimensions}
use Rattle.p3_support.specs.Batches.{greatest, heights_of, widths_of}

-- the least k below the bound that passes, else the bound
abbrev pub least : (ℕ → Bool) → ℕ → ℕ
least p zero = 0
least p (suc bound) = elim (p 0) [ true ↦ 0 | false ↦ suc (least (λ k. p (suc k)) bound) ]

-- ---- heights

-- the exponent of a height: the least k with 2 ^ k ≥ h
unfoldable pub exponent : ℕ → ℕ
exponent h = least (λ k. nat_le h (2 ^ k)) h

-- the greatest height that is allowed
abbrev pub height_limit : ℕ
height_limit = 2 ^ 62

-- the height of the matrices of exponent x, where m is the greatest height: m halved and rounded up, as often as leads
-- from its exponent to x
abbrev pub height_at : ℕ → ℕ → ℕ
height_at m x = (m - 1) / 2 ^ (exponent m - x) + 1

-- how many halvings lead from the greatest height m down to the height h
abbrev pub bits_reduced : ℕ → ℕ → ℕ
bits_reduced m h = exponent m - exponent h

-- the one lawful height with the exponent of h, where m is the greatest
abbrev pub expected_height : ℕ → ℕ → ℕ
expected_height m h = height_at m (exponent h)

-- some height is above 0, none is too large, and each is on the ladder: the expected one of its exponent
pub record IsLawful (heights : List ℕ) : Type 0 where
  pub some_above_0 : 0 < greatest heights
  pub none_too_large : All (λ h. h ≤ height_limit) heights
  pub on_ladder : All (λ h. h ≡ expected_height (greatest heights) h) heights

-- ---- shapes

-- an arity: a power of two from 2 to 2 ^ 62
pub record IsArity (n : ℕ) : Type 0 where
  pub power : n ≡ 2 ^ exponent n
  pub above_1 : 2 ≤ n
  pub fits : n ≤ 2 ^ 62

-- the test of arities: one of 2, 4, 8 and so on up to 2 ^ 62
abbrev pub is_arity : ℕ → Bool
is_arity n = list_any (λ k. n == 2 ^ suc k) (range_with_len 0 62)

-- how many children a node may have, and the dimensions of the matrices in input order
pub record Shape : Type 0 where
  pub arity : ℕ
  pub dimensions : List Dimensions

-- the shape of an arity and dimensions
abbrev pub shape_of : ℕ → List Dimensions → Shape
shape_of arity dimensions = record { arity = arity; dimensions = dimensions }

-- the heights of a shape's matrices
abbrev pub heights : Shape → List ℕ
heights s = heights_of s.dimensions

-- the widths of a shape's matrices
abbrev pub widths : Shape → List ℕ
widths s = widths_of s.dimensions

-- ---- steps from layer to layer

-- whether a step of the whole arity from the exponent x would pass the layer of a matrix: whether a matrix's exponent
-- lies strictly between x and what that step leaves of x, where a difference stops at 0
abbrev pub is_bridge : Shape → ℕ → Bool
is_bridge s x = list_any (λ h. nat_lt (x - exponent s.arity) (exponent h) && nat_lt (exponent h) x) (heights s)

-- the exponent of layer l: that of the greatest height at first; a bridge step takes 1, any other log2 of the arity,
-- and none goes below 0
unfoldable pub layer_exponent : Shape → ℕ → ℕ
layer_exponent s zero = exponent (greatest (heights s))
layer_exponent s (suc l) = let x = layer_exponent s l in if is_bridge s x then x - 1 else x - exponent s.arity

-- how many children a node of layer l + 1 has in layer l
abbrev pub step : Shape → ℕ → ℕ
step s l = if is_bridge s (layer_exponent s l) then 2 else s.arity

-- how many steps lead from the leaves to the root: the first layer whose exponent is 0
abbrev pub levels : Shape → ℕ
levels s = least (λ l. layer_exponent s l == 0) (exponent (greatest (heights s)))

-- the steps of the levels below layer t
abbrev pub schedule_below : Shape → ℕ → List ℕ
schedule_below s t = map (step s) (range_with_len 0 t)

-- the steps from the leaves to the root
abbrev pub arity_schedule : Shape → List ℕ
arity_schedule s = schedule_below s (levels s)

-- the layer k levels below the root, or the leaves if there are fewer levels
abbrev pub layer_below_root : Shape → ℕ → ℕ
layer_below_root s k = levels s - k

-- the layer to which a matrix of height h belongs
abbrev pub layer_of : Shape → ℕ → ℕ
layer_of s h = least (λ l. layer_exponent s l == exponent h) (levels s)

-- whether a matrix belongs to layer l, so that its nodes have rows
abbrev pub has_rows : Shape → ℕ → Bool
has_rows s l = list_any (λ h. exponent h == layer_exponent s l) (heights s)

-- ---- lengths of layers

-- r for r ≤ 1, n for 1 < r < n, else the least multiple of n not below r
abbrev pub padded_len : ℕ → ℕ → ℕ
padded_len r n = if nat_le r 1 then r else (if nat_lt r n then n else next_multiple_of r n)

-- how many slots of a layer of the exponent x are children of a node, where r of them are nodes: all, padding included,
-- but before a bridge step a layer shorter than the arity is padded to 2 ^ x alone, so that the step halves it
abbrev pub grouped_len_of : Shape → ℕ → ℕ → ℕ
grouped_len_of s x r = if is_bridge s x && nat_lt r s.arity then 2 ^ x else padded_len r s.arity

-- how many slots of layer l are nodes; the others are padding, and a node may have padding alone under it
unfoldable pub raw_len : Shape → ℕ → ℕ
raw_len s zero = greatest (heights s)
raw_len s (suc l) = grouped_len_of s (layer_exponent s l) (raw_len s l) / step s l

-- how many slots layer l has, padding included
abbrev pub layer_len : Shape → ℕ → ℕ
layer_len s l = padded_len (raw_len s l) s.arity

-- ---- ancestors

-- how many leaf slots a node of layer l has under it, padding included: the product of the steps below it
unfoldable pub leaves_under : Shape → ℕ → ℕ
leaves_under s zero = 1
leaves_under s (suc l) = leaves_under s l * step s l

-- the node of layer l above leaf i
abbrev pub ancestor : Shape → ℕ → ℕ → ℕ
ancestor s l i = i / leaves_under s l

-- the place of leaf i's ancestor of layer l among the children of its parent
abbrev pub position_in_group : Shape → ℕ → ℕ → ℕ
position_in_group s l i = ancestor s l i % step s l

-- these places, level by level below layer t
abbrev pub positions_below : Shape → ℕ → ℕ → List ℕ
positions_below s t i = map (λ l. position_in_group s l i) (range_with_len 0 t)

-- the row that belongs to leaf i in a matrix of height h, where m is the greatest height: the leaf, halved as often
-- as leads from m down to h
abbrev pub halved_index : ℕ → ℕ → ℕ → ℕ
halved_index m h i = i / 2 ^ bits_reduced m h
