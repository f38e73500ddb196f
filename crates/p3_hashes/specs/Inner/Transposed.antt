-- Rows transposed to columns.
use Rattle.std.specs.Prelude.{ℕ, List, [], ◌∷◌, map, slice_index}
use Rattle.std.specs.List.{range_with_len}

-- the four columns of four rows of four words
abbrev pub transposed : List ℕ → List ℕ → List ℕ → List ℕ → List (List ℕ)
transposed a b c d = map (λ i. slice_index a i ∷ slice_index b i ∷ slice_index c i ∷ slice_index d i ∷ [])
    (range_with_len 0 4)
