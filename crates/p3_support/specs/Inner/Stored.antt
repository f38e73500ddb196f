-- Rows that a matrix stores in one piece.
use Rattle.std.specs.Prelude.{ℕ, ◌≡◌, ◌+◌, ◌*◌, ◌<◌, List, IfSome, length, slice_get, slice_index_or}

module _ {A M : Type 0} (row : M → ℕ → List A) (width : M → ℕ) (r n : ℕ) where
  -- n is above 0 and, if there is a first matrix, its n rows from r on lie in xs, one after another
  abbrev pub BeginsWith : List M → List A → Type 0
  BeginsWith ms xs = (0 < n) × IfSome (slice_get ms 0) (λ m. (k c : ℕ) → k < n → c < width m →
      (k * width m + c < length xs)
      × ((d : A) → slice_index_or xs (k * width m + c) d ≡ slice_index_or (row m (r + k)) c d))
