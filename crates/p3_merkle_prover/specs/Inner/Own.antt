-- The nodes of a layer beside covered ones, which a pruned proof has.
use Rattle.std.specs.Prelude.{◌/◌, ◌==◌, ◌&&◌, ℕ, Bool, not, List, filter, length, map, slice_index_or}
use Rattle.std.specs.List.{list_any, range_with_len}

-- a node is not covered, but another one of its group of n is
abbrev pub is_beside : List ℕ → ℕ → ℕ → Bool
is_beside covered n j = list_any (λ k. k / n == j / n) covered && not (list_any (λ k. k == j) covered)

-- the values of such nodes in a layer, ascending; d is the value past the layer's end
abbrev pub others_beside : {X : Type 0} → List X → List ℕ → ℕ → X → List X
others_beside layer covered n d =
    map (λ j. slice_index_or layer j d) (filter (is_beside covered n) (range_with_len 0 (length layer)))
