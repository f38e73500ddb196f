use Rattle.std.proofs.Common.{◌≡◌, ◌-◌, ◌≤◌, length, take}
use Rattle.p3_support.proofs.matrix.Matrix.write_row.Given as goal

-- the elements before the column are written
abbrev pub invariant-loop-piece : goal.invariant-loop-piece
invariant-loop-piece g l = record {
  within : l.column ≤ l.width;
  long : length l.out ≡ length l.initial.out;
  written : take l.column l.out ≡ take l.column (g.Self.Matrix.row_of l.self l.row);
}

abbrev pub decreases-loop-piece : goal.decreases-loop-piece
decreases-loop-piece g l = l.width - l.column
