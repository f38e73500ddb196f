-- The rows of a layer, one after another, that a query opened.
use Rattle.std.specs.Prelude.{ℕ, List}
use Rattle.p3_support.specs.RowSets.{sets_in}
use Rattle.p3_merkle_verifier.specs.Inner.OpenedRows.{opened_row}
use Rattle.p3_merkle_verifier.specs.declared.openings.OpenedMatrix.{OpenedMatrix}

-- row j of an opened matrix
abbrev pub row_in : {T : Type 0} → OpenedMatrix T → ℕ → List T
row_in matrix j = opened_row (sets_in matrix.sets) matrix.queries.now matrix.place j
