use Rattle.std.proofs.Common.{◌≡◌, drop}
use Rattle.p3_support.specs.Rows.{parts_of}
use Rattle.p3_support.proofs.row_parts.RowParts.row_after.Given as goal

-- as many rows are passed as there were turns
abbrev pub invariant-loop : goal.invariant-loop
invariant-loop g l = parts_of l.self ≡ drop l.counter (parts_of l.initial.self)
