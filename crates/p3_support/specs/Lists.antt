-- Parts of lists: messages, lanes, rows and columns.
use Rattle.std.specs.Prelude.{Bool, ℕ, ◌==◌, cond, ◌++◌, drop, ◌+◌, ◌*◌, List, [], ◌∷◌, map, slice_range}
use Rattle.std.specs.Prelude.{slice_index_or}
use Rattle.std.specs.List.{flat_map, list_any, range_with_len}

-- whether a number is in a list
abbrev pub is_among : List ℕ → ℕ → Bool
is_among ns n = list_any (λ m. m == n) ns

-- message i, where messages of w words lie one after another in xs
abbrev pub message : {A : Type 0} → ℕ → List A → ℕ → List A
message w xs i = slice_range xs (i * w) ((i + 1) * w)

-- the n messages of w words each that lie one after another in xs
abbrev pub messages : {A : Type 0} → ℕ → ℕ → List A → List (List A)
messages w n xs = map (message w xs) (range_with_len 0 n)

-- lane k of each packed value; d stands where there is no such lane
abbrev pub lane_of : {A P : Type 0} → (P → List A) → A → ℕ → List P → List A
lane_of lanes d k ps = map (λ p. slice_index_or (lanes p) k d) ps

module _ {A M : Type 0} (height : M → ℕ) (row : M → ℕ → List A) (h r : ℕ) where
  -- row r of each matrix of height h, one after another
  abbrev pub rows_of_height : List M → List A
  rows_of_height [] = []
  rows_of_height (m ∷ ms) = cond (height m == h) (row m r) [] ++ rows_of_height ms

  -- the same, where the first matrix is read from column c on
  abbrev pub rows_left : List M → ℕ → List A
  rows_left [] c = []
  rows_left (m ∷ ms) c = cond (height m == h) (drop c (row m r)) [] ++ rows_of_height ms

module _ {A : Type 0} (row : ℕ → List A) (d : A) (r n : ℕ) where
  -- column c of the n rows from r on
  abbrev pub column_of_rows : ℕ → List A
  column_of_rows c = map (λ k. slice_index_or (row (r + k)) c d) (range_with_len 0 n)

  -- the w columns of these rows
  abbrev pub columns : ℕ → List (List A)
  columns w = map column_of_rows (range_with_len 0 w)

module _ {A M : Type 0} (row : M → ℕ → List A) (width : M → ℕ) (d : A) (r n : ℕ) where
  -- the columns of the n rows from r on of each matrix, one matrix after another
  abbrev pub columns_over : List M → List (List A)
  columns_over ms = flat_map (λ m. columns (row m) d r n (width m)) ms

  -- the same, where the first matrix is read from column c on
  abbrev pub columns_left : List M → ℕ → List (List A)
  columns_left [] c = []
  columns_left (m ∷ ms) c = drop c (columns (row m) d r n (width m)) ++ columns_over ms
