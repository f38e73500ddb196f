use Rattle.std.proofs.Common.{◌≡◌, ℕ, ◌+◌, ◌*◌, ◌<◌, drop, length, take}
use Rattle.std.specs.Prelude.{sum_by}
use Rattle.p3_merkle_hashing.specs.Inner.Slots.{rows_over}
use Rattle.p3_merkle_hashing.proofs.rows.write_rows.Given as goal

-- each row has the words of the matrices so far
abbrev pub invariant-loop-matrix : goal.invariant-loop-matrix
invariant-loop-matrix g l = record {
  at : l.start ≡ sum_by g.M.Matrix.width_of (take l.matrix-index l.matrices);
  long : length l.out ≡ length l.initial.out;
  written : (j : ℕ) → j < l.count → take l.start (drop (j * l.len) l.out)
      ≡ rows_over g.M.Matrix.row_of (take l.matrix-index l.matrices) (l.first + j);
}
