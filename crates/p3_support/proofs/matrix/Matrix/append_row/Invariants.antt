use Rattle.std.proofs.Common.{◌≡◌, ◌-◌, ◌++◌, ◌≤◌, take}
use Rattle.p3_support.proofs.matrix.Matrix.append_row.Given as goal

-- the elements before the column are there
abbrev pub invariant-loop-piece : goal.invariant-loop-piece
invariant-loop-piece g l = record {
  within : l.column ≤ l.width;
  appended : l.words.items ≡ l.initial.words.items ++ take l.column (g.Self.Matrix.row_of l.self l.row);
}

abbrev pub decreases-loop-piece : goal.decreases-loop-piece
decreases-loop-piece g l = l.width - l.column
