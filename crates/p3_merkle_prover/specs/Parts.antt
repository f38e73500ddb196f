-- The parts of a tree that contracts cite.
use Rattle.std.specs.Prelude.{ℕ, List, map}
use Rattle.p3_support.specs.declared.matrix.Matrix.{Ghosts}
use Rattle.p3_merkle_core.specs.Nodes.{Batch}
use Rattle.p3_merkle_core.specs.Views.{batch_of}
use Rattle.p3_merkle_prover.specs.declared.tree.Tree.{Tree}

module _ {F X G M : Type 0} {n : ℕ} {matrix : Ghosts M F} where
  -- the matrices, in input order
  abbrev pub matrices_of : Tree F X G M n matrix → List M
  matrices_of tree = tree.matrices.items

  -- the digests of each layer, from the leaves to the root
  abbrev pub layers_of : Tree F X G M n matrix → List (List X)
  layers_of tree = map (λ nodes. nodes.items) tree.layers.items

  -- the matrices, under the arity
  abbrev pub tree_batch : Tree F X G M n matrix → Batch F
  tree_batch tree = batch_of matrix.height_of matrix.width_of matrix.row_of n tree.matrices.items
