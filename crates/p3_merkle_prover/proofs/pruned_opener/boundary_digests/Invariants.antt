-- Each turn appends the digests of one layer, and climbs to the layer above.
use Rattle.std.proofs.Common.{◌≡◌}
use Rattle.p3_merkle_core.specs.Nodes.{shape}
use Rattle.p3_merkle_core.specs.Pruning.{boundary_by}
use Rattle.p3_merkle_core.specs.Openings.{node_in}
use Rattle.p3_merkle_core.proofs.Covered.ClimbFacts.{shape_over}
use Rattle.p3_merkle_prover.specs.Parts.{layers_of, tree_batch}
use Rattle.p3_merkle_prover.proofs.pruned_opener.boundary_digests.Given as goal

-- the layer that is reached, and the digests of the levels so far
abbrev pub invariant-loop-level : goal.invariant-loop-level
invariant-loop-level g l = record {
  shape_is : shape_over l.covered ≡ shape (tree_batch l.tree);
  indices : l.covered.indices.now ≡ l.indices;
  layer : l.covered.layer ≡ l.level;
  so_far : (d : g.row.X.Denot) → l.digests.items
      ≡ boundary_by (node_in d (layers_of l.tree)) (shape (tree_batch l.tree)) l.indices l.level;
}
