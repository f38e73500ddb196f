use Rattle.std.proofs.Common.{◌≡◌, ℕ, ◌+◌, ◌*◌, ◌<◌, ◌≤◌, ◌++◌, drop, length, take}
use Rattle.p3_merkle_hashing.proofs.rows.write_columns.Given as goal

-- the rows so far are written, and the others are as before
abbrev pub invariant-loop-j : goal.invariant-loop-j
invariant-loop-j g l = record {
  long : length l.out ≡ length l.initial.out;
  written : (k : ℕ) → k < l.j → take (l.start + g.M.Matrix.width_of l.matrix) (drop (k * l.len) l.out)
      ≡ take l.start (drop (k * l.len) l.initial.out) ++ g.M.Matrix.row_of l.matrix (l.first + k);
  left : (k : ℕ) → l.j ≤ k → drop (k * l.len) l.out ≡ drop (k * l.len) l.initial.out;
}
