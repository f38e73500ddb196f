-- What is opened is read out of the tree's layers.
use Rattle.std.proofs.Common.{◌∙◌, [], ℕ, ap, arith}
use Rattle.p3_merkle_core.specs.Nodes.{shape}
use Rattle.p3_merkle_core.specs.Openings.{node_in, opening_of, siblings_by}
use Rattle.p3_merkle_prover.specs.Parts.{layers_of, tree_batch}
use Rattle.p3_merkle_tree.specs.Schemes.{cap_layer_of, functions_of}
use Rattle.p3_merkle_tree.proofs.OpenedFacts.{is_opened}
use Rattle.p3_merkle_tree.proofs.mmcs.MerkleTreeMmcs+P+PW+H+C+N+D.open_batch.Goals as goal

pub cap_layer-cap_layer-requires : goal.cap_layer-cap_layer-requires
cap_layer-cap_layer-requires g c = rw (ap (λ s. s.arity) c.tree_schedule-schedule.ensures) c.args.tree.now.arity

pub returns-clause-opened : goal.returns-clause-opened
returns-clause-opened g c =
    let scheme = c.args.self.now in
    let tree = c.args.tree.now in
    let s = shape (tree_batch tree) in
    let siblings = c.in_ok-opening_proof.ensures.siblings []
    ∙ ap (λ (t : ℕ). siblings_by (node_in [] (layers_of tree)) s t c.args.index)
    (c.cap_layer-cap_layer.ensures ∙ ap (cap_layer_of scheme) c.tree_schedule-schedule.ensures) in
    is_opened (functions_of scheme) tree (cap_layer_of scheme s) (omega arith) g.met.M.Matrix.length_row_of _ c.requires
    (λ i. opening_of c.args.index (c.in_ok-opened_values.ensures.rows i) (siblings i))
