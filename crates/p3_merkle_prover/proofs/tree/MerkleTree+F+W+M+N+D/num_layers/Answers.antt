-- There is one layer more than levels.
use Rattle.std.proofs.Common.{arith, length}
use Rattle.p3_merkle_core.specs.Nodes.{shape}
use Rattle.p3_merkle_prover.specs.Parts.{tree_batch}
use Rattle.p3_merkle_prover.proofs.TreeFacts.{layers_count}
use Rattle.p3_merkle_prover.proofs.tree.MerkleTree+F+W+M+N+D.num_layers.Goals as goal

pub returns-clause-levels : goal.returns-clause-levels
returns-clause-levels g c =
    let tree = c.args.self.now in
    omega (
      arith,
      layers_count (λ nodes. length nodes.items) tree.layers.items (shape (tree_batch tree))
          tree.layer_lengths,
      c.len.ensures,
      tree.layers.ok.0,
    )
