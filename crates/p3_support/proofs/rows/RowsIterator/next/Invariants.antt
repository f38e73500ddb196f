use Rattle.std.proofs.Common.{◌≡◌, ◌<◌, length}
use Rattle.p3_support.specs.Lists.{rows_left}
use Rattle.p3_support.proofs.rows.RowsIterator.next.Given as goal

abbrev pub invariant-loop-first : goal.invariant-loop-first
invariant-loop-first g l =
    (l.self-inside.row < l.self-inside.height)
    × (rows_left g.M.Matrix.height_of g.M.Matrix.row_of l.self-inside.height l.self-inside.row
    l.self-inside.matrices.now l.self-inside.next
    ≡ rows_left g.M.Matrix.height_of g.M.Matrix.row_of l.initial.self-inside.height l.initial.self-inside.row
    l.initial.self-inside.matrices.now l.initial.self-inside.next)

abbrev pub decreases-loop-first : goal.decreases-loop-first
decreases-loop-first g l = length l.self-inside.matrices.now
