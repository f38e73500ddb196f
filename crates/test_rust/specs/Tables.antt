-- What the matrices of cases show.
use Rattle.std.specs.Prelude.{◌≡◌, ℕ, ◌<◌, List, [], length, refl}
use Rattle.p3_support.specs.Inner.RowLengths.{length-message}
use Rattle.p3_support.specs.Lists.{message}
use Rattle.p3_support.specs.RowMajor.{row_count, row_width, values_of}
use Rattle.test_rust.specs.declared.table.Table.{Table}
use Rattle.test_rust.specs.declared.table.Table.TheVariants.{Blank, Rows}

-- the number of rows
abbrev pub height_in : {A : Type 0} → Table A → ℕ
height_in (Rows rows) = row_count rows
height_in (Blank height) = height

-- the number of words of each row
abbrev pub width_in : {A : Type 0} → Table A → ℕ
width_in (Rows rows) = row_width rows
width_in (Blank height) = 0

-- the words of a row
abbrev pub row_in : {A : Type 0} → Table A → ℕ → List A
row_in (Rows rows) = message (row_width rows) (values_of rows)
row_in (Blank height) = λ r. []

-- each row is as wide as the matrix
pub length-row_in : {A : Type 0} (m : Table A) (r : ℕ) → r < height_in m → length (row_in m r) ≡ width_in m
length-row_in (Rows rows) r below = length-message (values_of rows) (row_width rows) (row_count rows) r rows.full below
length-row_in (Blank height) r below = refl
