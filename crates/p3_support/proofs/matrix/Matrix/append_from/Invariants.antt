use Rattle.std.proofs.Common.{◌≡◌, ◌-◌, ◌++◌, ◌≤◌, drop, take}
use Rattle.p3_support.proofs.matrix.Matrix.append_from.Given as goal

-- the elements before the next column are there
abbrev pub invariant-loop-next : goal.invariant-loop-next
invariant-loop-next g l = record {
  within : l.column ≤ l.next;
  appended : l.words.items ≡ l.initial.words.items
      ++ take (l.next - l.column) (drop l.column (g.Self.Matrix.row_of l.self l.row));
}
