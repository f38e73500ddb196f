-- The rows that queries opened of one matrix.
use Rattle.std.specs.Prelude.{◌≡◌, ℕ, ◌<◌, List, [], All, length, slice_index, slice_index_or}

-- the row that query queries[j] opened of the matrix in this place
abbrev pub opened_row : {T : Type 0} → List (List (List T)) → List ℕ → ℕ → ℕ → List T
opened_row sets queries place j = slice_index_or (slice_index_or sets (slice_index queries j) []) place []

-- each row set has a row in this place, of this width
abbrev pub HaveRows : {T : Type 0} → List (List (List T)) → ℕ → ℕ → Type 0
HaveRows sets place width = All (λ rows. (place < length rows) × (length (slice_index_or rows place []) ≡ width)) sets

-- so that row has this width
pub length-opened_row : {T : Type 0} (sets : List (List (List T))) (queries : List ℕ) (place width : ℕ) →
    All (λ k. k < length sets) queries → HaveRows sets place width → (j : ℕ) → j < length queries →
    length (opened_row sets queries place j) ≡ width
length-opened_row sets queries place width among fit j h = (fit (slice_index queries j) [] (among j 0 h)).1
