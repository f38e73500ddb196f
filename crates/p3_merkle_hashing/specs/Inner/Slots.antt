-- Slots of a layer that are written from the first on, and rows as messages of a hasher.
use Rattle.std.specs.Prelude.{◌≡◌, ℕ, ◌*◌, ◌<◌, List, [], length, map, nat_lt, if◌then◌else◌, slice_index_or}
use Rattle.std.specs.List.{flat_map, range_with_len}
use Rattle.p3_support.specs.Lists.{messages}

-- there are len slots, and each slot j below n has digest j
pub record IsFilled {W : Type 0} (digest : ℕ → List W) (n len : ℕ) (slots : List (List W)) : Type 0 where
  pub long : length slots ≡ len
  pub filled : (j : ℕ) → j < n → slice_index_or slots j [] ≡ digest j

-- row j of each of the matrices, one after another
abbrev pub rows_over : {T M : Type 0} → (M → ℕ → List T) → List M → ℕ → List T
rows_over row ms j = flat_map (λ m. row m j) ms

-- the digest of row j of a layer, or the default digest d past its height h
abbrev pub leaf_over : {T W : Type 0} → (List T → List W) → List W → (ℕ → List T) → ℕ → ℕ → List W
leaf_over hash d rows h j = if nat_lt j h then hash (rows j) else d

-- these words are the messages 0 to n - 1, all of one length, one after another
pub record IsStaged {T : Type 0} (message : ℕ → List T) (n : ℕ) (words : List T) : Type 0 where
  pub width : ℕ
  pub long : length words ≡ width * n
  pub are : messages width n words ≡ map message (range_with_len 0 n)
