-- The rows of one opening, in parts or one after another.
use Rattle.p3_support.specs.Shown.{row_lists}
use Rattle.std.specs.Prelude.{ℕ, List, [], ◌∷◌, ◌++◌, length, map, min, take, drop, zip}
use Rattle.p3_support.specs.Batches.{widths_of}
use Rattle.p3_support.specs.declared.row_parts.RowParts.{RowParts}
use Rattle.p3_support.specs.declared.row_parts.RowParts.TheVariants.{Vecs, Slices, Salted, SaltedSlices, Flat}

-- the rows whose parts these are: each first part followed by its second
abbrev pub rows_in_parts : {T : Type 0} → List (List T × List T) → List (List T)
rows_in_parts parts = map (λ (first, second). first ++ second) parts

-- rows in one piece, each with an empty second part
abbrev pub whole : {T : Type 0} → List (List T) → List (List T × List T)
whole rows = map (λ row. (row, [])) rows

-- the length of the next row, of width w, when n words are left and rows of these widths follow: w, or n if n is less;
-- the last row takes all n
abbrev pub first_len : ℕ → List ℕ → ℕ → ℕ
first_len w [] n = n
first_len w (v ∷ widths) n = min w n

-- words that lie one after another, as rows of these widths
unfoldable pub flat_rows : {T : Type 0} → List ℕ → List T → List (List T)
flat_rows [] words = []
flat_rows (w ∷ widths) words =
    let n = first_len w widths (length words) in
    take n words ∷ flat_rows widths (drop n words)

-- the parts of the rows that are left
abbrev pub parts_of : {T : Type 0} → RowParts T → List (List T × List T)
parts_of (Vecs rows) = whole (row_lists rows.now)
parts_of (Slices rows) = whole (map (λ row. row.now) rows.now)
parts_of (Salted rows salts) = zip (row_lists rows.now) (row_lists salts.now)
parts_of (SaltedSlices rows salts) = zip (map (λ row. row.now) rows.now) (row_lists salts.now)
parts_of (Flat words dimensions) = whole (flat_rows (widths_of dimensions.now) words.now)

-- the rows that are left, each in one piece
abbrev pub rows_in : {T : Type 0} → RowParts T → List (List T)
rows_in rows = rows_in_parts (parts_of rows)
