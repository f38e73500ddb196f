use Rattle.std.proofs.Common.{◌≡◌, map, take}
use Rattle.p3_merkle_core.specs.Openings.{honest_rows}
use Rattle.p3_support.specs.Shown.{row_sets}
use Rattle.p3_merkle_prover.specs.Parts.{tree_batch}
use Rattle.p3_merkle_prover.proofs.pruned_opener.rows_of_indices.Given as goal

-- the row sets so far
abbrev pub invariant-loop-index : goal.invariant-loop-index
invariant-loop-index g l = row_sets l.rows.items ≡ map (honest_rows (tree_batch l.tree)) (take l.index-index l.indices)
