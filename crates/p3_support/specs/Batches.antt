-- Matrices that are committed to together, and what is opened of them.
use Rattle.std.specs.Prelude.{◌≡◌, ℕ, ◌+◌, ◌^◌, ◌<◌, max, All, List, [], ◌∷◌, length, map}
use Rattle.p3_support.specs.declared.matrix.Dimensions.{Dimensions}

-- the greatest number, or 0 if there are none
abbrev pub greatest : List ℕ → ℕ
greatest [] = 0
greatest (n ∷ ns) = max n (greatest ns)

-- the heights of matrices, in rows
abbrev pub heights_of : List Dimensions → List ℕ
heights_of dimensions = map (λ d. d.height) dimensions

-- the widths of their rows, in words
abbrev pub widths_of : List Dimensions → List ℕ
widths_of dimensions = map (λ d. d.width) dimensions

-- matrices with e more columns
abbrev pub widened : ℕ → List Dimensions → List Dimensions
widened e dimensions = map (λ d. record { width = d.width + e; height = d.height }) dimensions

-- each width with e more columns is a usize
abbrev pub CanWiden : ℕ → List Dimensions → Type 0
CanWiden e dimensions = All (λ d. d.width + e < 2 ^ 64) dimensions

-- the width and the height of each matrix
abbrev pub dimensions_in : {M : Type 0} → (M → ℕ) → (M → ℕ) → List M → List Dimensions
dimensions_in height width ms = map (λ m. record { width = width m; height = height m }) ms

-- the row of each matrix that belongs to an index, where `row_number top height index` says which row that is in a
-- matrix of this height, and top is the greatest height
abbrev pub rows_in : {T M : Type 0} → (height : M → ℕ) → (row : M → ℕ → List T) →
    (row_number : (top height index : ℕ) → ℕ) → (top : ℕ) → List M → (index : ℕ) → List (List T)
rows_in height row row_number top ms index = map (λ m. row m (row_number top (height m) index)) ms

-- there is a row for each of the dimensions, as wide as they say, and the index is below the greatest height
pub record FitDimensions {T : Type 0} (dimensions : List Dimensions) (index : ℕ) (rows : List (List T)) : Type 0 where
  pub rows_fit : map length rows ≡ widths_of dimensions
  pub in_range : index < greatest (heights_of dimensions)
