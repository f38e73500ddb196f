-- The cap is the tree's own layer.
use Rattle.std.proofs.Common.{◌∙◌, ap}
use Rattle.p3_merkle_prover.specs.Parts.{layers_of, tree_batch}
use Rattle.p3_merkle_tree.specs.Schemes.{cap_layer_of, functions_of}
use Rattle.p3_support.specs.Shown.{roots_of}
use Rattle.p3_merkle_tree.proofs.CapFacts.{cap_is}
use Rattle.p3_merkle_tree.proofs.mmcs.MerkleTreeMmcs+P+PW+H+C+N+D.commit_checked.Goals as goal

pub cap_layer-cap_layer-requires : goal.cap_layer-cap_layer-requires
cap_layer-cap_layer-requires g c = rw (ap (λ s. s.arity) c.tree_schedule.ensures) c.in_ok-tree.tree.arity

pub returns-clause-committed : goal.returns-clause-committed
returns-clause-committed g c =
    let scheme = c.args.self.now in
    let tree = c.in_ok-tree.tree in
    record {
      own_layers = c.in_ok-tree.ensures.layers;
      own_cap = cap_is (functions_of scheme) (tree_batch tree) (layers_of tree) scheme.cap_rule scheme.cap_height
          c.cap_layer-cap_layer.result (roots_of c.in_ok-cap.cap) c.in_ok-tree.ensures.layers
          (c.cap_layer-cap_layer.ensures ∙ ap (cap_layer_of scheme) c.tree_schedule.ensures) c.in_ok-cap.ensures;
    }
