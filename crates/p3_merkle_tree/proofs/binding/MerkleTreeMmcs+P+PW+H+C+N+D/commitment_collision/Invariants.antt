-- No index so far gives a collision.
use Rattle.std.proofs.Common.{◌≡◌, ℕ, ◌<◌}
use Rattle.p3_merkle_core.specs.Nodes.{shape}
use Rattle.p3_merkle_prover.specs.Parts.{layers_of, tree_batch}
use Rattle.p3_merkle_tree.specs.Inner.IndexBinding.{AgreeAt}
use Rattle.p3_merkle_tree.specs.Schemes.{params_of}
use Rattle.p3_merkle_tree.proofs.binding.MerkleTreeMmcs+P+PW+H+C+N+D.commitment_collision.Given as goal

abbrev pub invariant-loop-index : goal.invariant-loop-index
invariant-loop-index g l =
    let a = tree_batch l.first in
    let b = tree_batch l.second in
    shape a ≡ shape b → (i : ℕ) → i < l.index →
    AgreeAt (params_of l.self (shape a)) a (layers_of l.first) b (layers_of l.second) i
