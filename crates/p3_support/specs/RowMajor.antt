-- The fields of a matrix that is stored row after row.
use Rattle.std.specs.Prelude.{◌≡◌, ℕ, List}
use Rattle.std.specs.List.{AllZip}
use Rattle.p3_support.specs.declared.matrix.RowMajorMatrix.{RowMajorMatrix}

-- all elements, row after row
abbrev pub values_of : {A : Type 0} → RowMajorMatrix A → List A
values_of m = m.values.items

-- the number of elements of a row
abbrev pub row_width : {A : Type 0} → RowMajorMatrix A → ℕ
row_width m = m.width

-- the number of rows
abbrev pub row_count : {A : Type 0} → RowMajorMatrix A → ℕ
row_count m = m.height

-- n has clones of the elements of m, in as many rows of the same width
pub record IsMatrixClone {A : Type 0} (is_clone : A → A → Type 0) (m n : RowMajorMatrix A) : Type 0 where
  pub cloned_values : AllZip is_clone (values_of m) (values_of n)
  pub same_width : row_width n ≡ row_width m
  pub same_height : row_count n ≡ row_count m
