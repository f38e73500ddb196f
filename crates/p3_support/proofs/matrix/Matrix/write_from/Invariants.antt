use Rattle.std.proofs.Common.{◌≡◌, drop, length, take}
use Rattle.p3_support.proofs.matrix.Matrix.write_from.Given as goal

-- the elements so far are written
abbrev pub invariant-loop-i : goal.invariant-loop-i
invariant-loop-i g l = record {
  long : length l.out ≡ length l.initial.out;
  written : take l.i l.out ≡ take l.i (drop l.column (g.Self.Matrix.row_of l.self l.row));
}
