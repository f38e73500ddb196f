use Rattle.std.proofs.Common.{◌≡◌, take}
use Rattle.p3_merkle_core.specs.Openings.{honest_rows}
use Rattle.p3_support.specs.Shown.{row_lists}
use Rattle.p3_merkle_prover.specs.Parts.{tree_batch}
use Rattle.p3_merkle_prover.proofs.opener.rows_of_index.Given as goal

-- the rows so far, and the capacity for all
abbrev pub invariant-loop-matrix : goal.invariant-loop-matrix
invariant-loop-matrix g l = record {
  read : row_lists l.rows.items ≡ take l.matrix-index (honest_rows (tree_batch l.tree) l.index);
  count : l.rows.len ≡ l.matrix-index;
  capacity : l.rows.cap ≡ l.tree.matrices.len;
}
