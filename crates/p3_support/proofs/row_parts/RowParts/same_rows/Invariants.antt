use Rattle.std.proofs.Common.{◌≡◌, length}
use Rattle.std.specs.Cmp.Lexicographic.{pointwise}
use Rattle.p3_support.specs.Rows.{parts_of, rows_in}
use Rattle.p3_support.proofs.row_parts.RowParts.same_rows.Given as goal

-- the rows so far are the same, so those that are left decide
abbrev pub invariant-loop-row : goal.invariant-loop-row
invariant-loop-row g l =
    pointwise (pointwise g.T.PartialEq.eq) (rows_in l.self) (rows_in l.other)
    ≡ pointwise (pointwise g.T.PartialEq.eq) (rows_in l.initial.self) (rows_in l.initial.other)

abbrev pub decreases-loop-row : goal.decreases-loop-row
decreases-loop-row g l = length (parts_of l.self)
