use Rattle.std.proofs.Common.{◌≡◌, take}
use Rattle.p3_support.specs.Batches.{widened}
use Rattle.p3_merkle_tree.proofs.salts.widened_dimensions.Given as goal

-- those of the matrices so far
abbrev pub invariant-loop-matrix : goal.invariant-loop-matrix
invariant-loop-matrix l = l.wider.items ≡ widened l.salt_elems (take l.matrix-index l.dimensions)
