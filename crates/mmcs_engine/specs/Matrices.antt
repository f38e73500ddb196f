-- Matrices by their rows.
use Rattle.std.specs.Prelude.{ℕ, List, [], map, length, slice_index_or}
use Rattle.p3_merkle_core.specs.Nodes.{Matrix, Batch}

-- the matrix of some rows, as wide as the first of them
abbrev pub matrix_of_rows : List (List ℕ) → Matrix ℕ
matrix_of_rows rows =
    record { height = length rows; width = length (slice_index_or rows 0 []); row = λ r. slice_index_or rows r [] }

-- the matrices of a batch, each by its rows, under an arity
abbrev pub batch_of_rows : ℕ → List (List (List ℕ)) → Batch ℕ
batch_of_rows arity matrices = record { arity = arity; matrices = map matrix_of_rows matrices }
