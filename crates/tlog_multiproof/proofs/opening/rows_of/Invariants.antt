use Rattle.std.proofs.Common.{◌≡◌, map, take}
use Rattle.p3_support.specs.Shown.{row_sets}
use Rattle.tlog_multiproof.specs.Instance.{leaf_row_set}
use Rattle.tlog_multiproof.proofs.opening.rows_of.Given as goal

-- the rows so far
abbrev pub invariant-loop-leaf : goal.invariant-loop-leaf
invariant-loop-leaf l = row_sets l.rows.items ≡ map leaf_row_set (take l.leaf-index l.leaves)
