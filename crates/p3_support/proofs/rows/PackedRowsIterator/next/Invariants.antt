-- Passing a matrix whose columns are all given leaves the same columns, of fewer matrices.
use Rattle.std.proofs.Common.{◌≡◌, ◌+◌, ◌≤◌, All, length}
use Rattle.std.specs.Prelude.{IfSome}
use Rattle.p3_support.specs.Inner.Stored.{BeginsWith}
use Rattle.p3_support.specs.Lists.{columns_left}
use Rattle.p3_support.proofs.rows.PackedRowsIterator.next.Given as goal

abbrev pub invariant-loop-first : goal.invariant-loop-first
invariant-loop-first g l =
    let s = l.self-inside in
    let left = columns_left g.M.Matrix.row_of g.M.Matrix.width_of g.P.PackedValue.default_value in
    let n = g.P.PackedValue.WIDTH in
    (All (λ m. s.row + n ≤ g.M.Matrix.height_of m) s.matrices.now
    × IfSome s.stored (λ rows. BeginsWith g.M.Matrix.row_of g.M.Matrix.width_of s.row n s.matrices.now rows.now))
    × (left s.row n s.matrices.now s.next
    ≡ left l.initial.self-inside.row n l.initial.self-inside.matrices.now l.initial.self-inside.next)

abbrev pub decreases-loop-first : goal.decreases-loop-first
decreases-loop-first g l = length l.self-inside.matrices.now
