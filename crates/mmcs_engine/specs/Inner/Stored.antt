-- What is read and stored of an input.
use Rattle.std.specs.Prelude.{◌≡◌, ℕ, List, [], Option, None, Some}
use Rattle.std.specs.Str.Parse.{digits_value}
use Rattle.p3_support.specs.declared.matrix.RowMajorMatrix.{RowMajorMatrix}
use Rattle.p3_support.specs.Lists.{message}
use Rattle.p3_support.specs.RowMajor.{values_of, row_width, row_count}
use Rattle.p3_merkle_core.specs.Nodes.{Matrix, Batch}
use Rattle.p3_merkle_core.specs.Views.{batch_of}
use Rattle.mmcs_engine.specs.Numbers.{IsNumberBelow}

-- the number that was read of some bytes: none of no bytes
abbrev pub IsRead : ℕ → List ℕ → Option ℕ → Type 0
IsRead limit digits None = digits ≡ []
IsRead limit digits (Some number) = IsNumberBelow limit digits × (number ≡ digits_value 10 digits)

-- a stored matrix, by the numbers that its words are
abbrev pub stored_matrix : {W : Type 0} → (List W → List ℕ) → RowMajorMatrix W → Matrix ℕ
stored_matrix numbers m =
    record { height = row_count m; width = row_width m; row = λ r. message (row_width m) (numbers (values_of m)) r }

-- stored matrices, under an arity
abbrev pub stored_batch : {W : Type 0} → ℕ → List (RowMajorMatrix W) → Batch W
stored_batch = batch_of row_count row_width (λ m r. message (row_width m) (values_of m) r)
