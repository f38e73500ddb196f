-- The parts of the rows that an opening has for the matrices of an exponent.
use Rattle.std.specs.Prelude.{ℕ, ◌==◌, List, [], ◌∷◌, ◌++◌, flat_map, if◌then◌else◌, zip}
use Rattle.p3_support.specs.Batches.{heights_of}
use Rattle.p3_support.specs.Rows.{parts_of, whole}
use Rattle.p3_support.specs.Shown.{row_lists}
use Rattle.p3_merkle_core.specs.Geometry.{exponent}
use Rattle.p3_merkle_verifier.specs.declared.openings.OpenedParts.{OpenedParts}
use Rattle.p3_merkle_verifier.specs.declared.openings.OpenedRows.{OpenedRows}
use Rattle.p3_merkle_verifier.specs.declared.openings.OpenedWords.{OpenedWords}
use Rattle.p3_merkle_verifier.specs.declared.openings.SaltedRows.{SaltedRows}

-- a part ahead of others, if it has words
abbrev pub ahead : {T : Type 0} → List T → List (List T) → List (List T)
ahead [] others = others
ahead (word ∷ words) others = (word ∷ words) ∷ others

-- the parts of the rows of the matrices of exponent x, row after row; a second part only if it has words
unfoldable pub parts_of_exponent : {T : Type 0} → ℕ → List ℕ → List (List T × List T) → List (List T)
parts_of_exponent x [] parts = []
parts_of_exponent x (h ∷ heights) [] = []
parts_of_exponent x (h ∷ heights) (part ∷ parts) =
    let others = parts_of_exponent x heights parts in
    if exponent h == x then part.0 ∷ ahead part.1 others else others

-- what an iterator over parts has left to yield
abbrev pub parts_left : {T : Type 0} → OpenedParts T → List (List T)
parts_left s = ahead s.second.now (parts_of_exponent s.exponent (heights_of s.dimensions.now) (parts_of s.rows))

-- what an iterator over rows in one piece has left to yield
abbrev pub rows_left : {T : Type 0} → OpenedRows T → List (List T)
rows_left s = parts_of_exponent s.exponent (heights_of s.dimensions.now) (whole (row_lists s.rows.now))

-- what an iterator over rows with salts has left to yield
abbrev pub salted_left : {T : Type 0} → SaltedRows T → List (List T)
salted_left s =
    ahead s.due.now (parts_of_exponent s.exponent (heights_of s.dimensions.now)
    (zip (row_lists s.rows.now) (row_lists s.salts.now)))

-- what an iterator over words has left to yield
abbrev pub words_left : {T : Type 0} → OpenedWords T → List T
words_left s = s.part.now ++ flat_map (λ part. part) (parts_left s.parts)
