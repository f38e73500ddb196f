-- What is opened is read out of the tree's layers.
use Rattle.std.proofs.Common.{◌∙◌, [], ℕ, ap, arith}
use Rattle.std.proofs.lemmas.Result.{IfOk-from_err}
use Rattle.p3_merkle_core.specs.Nodes.{shape}
use Rattle.p3_merkle_core.specs.Openings.{node_in}
use Rattle.p3_merkle_core.specs.Pruning.{boundary_by, pruned_of}
use Rattle.p3_merkle_prover.specs.Parts.{layers_of, tree_batch}
use Rattle.p3_merkle_tree.specs.Schemes.{cap_layer_of, functions_of}
use Rattle.p3_merkle_tree.proofs.OpenedFacts.{is_pruned_opened, is_single_opened}
use Rattle.p3_merkle_tree.proofs.pruned.MerkleTreeMmcs+P+PW+H+C+N+D.open_batch_pruned.Goals as goal

pub returns-in_err-opened_values-clause-opened : goal.returns-in_err-opened_values-clause-opened
returns-in_err-opened_values-clause-opened g c = IfOk-from_err c.from_residual.result _ c.from_residual.ensures.0

pub returns-in_err-sibling_hashes-clause-opened : goal.returns-in_err-sibling_hashes-clause-opened
returns-in_err-sibling_hashes-clause-opened g c =
    IfOk-from_err c.from_residual-in_err-sibling_hashes.result _ c.from_residual-in_err-sibling_hashes.ensures.0

pub returns-in_err-opened_values-clause-single : goal.returns-in_err-opened_values-clause-single
returns-in_err-opened_values-clause-single g c one = IfOk-from_err c.from_residual.result _ c.from_residual.ensures.0

pub returns-in_err-sibling_hashes-clause-single : goal.returns-in_err-sibling_hashes-clause-single
returns-in_err-sibling_hashes-clause-single g c one =
    IfOk-from_err c.from_residual-in_err-sibling_hashes.result _ c.from_residual-in_err-sibling_hashes.ensures.0

pub cap_layer-cap_layer-requires : goal.cap_layer-cap_layer-requires
cap_layer-cap_layer-requires g c = rw (ap (λ s. s.arity) c.tree_schedule.ensures) c.args.tree.now.arity

pub returns-clause-opened : goal.returns-clause-opened
returns-clause-opened g c =
    let scheme = c.args.self.now in
    let tree = c.args.tree.now in
    let s = shape (tree_batch tree) in
    let digests = c.in_ok-sibling_hashes.ensures.digests []
    ∙ ap (λ (t : ℕ). boundary_by (node_in [] (layers_of tree)) s c.args.indices.now t)
    (c.cap_layer-cap_layer.ensures ∙ ap (cap_layer_of scheme) c.tree_schedule.ensures) in
    is_pruned_opened (functions_of scheme) tree (cap_layer_of scheme s) (omega arith) g.met.M.Matrix.length_row_of _
    c.requires (λ i. pruned_of c.args.indices.now (c.in_ok-opened_values.ensures.rows i) (digests i))

pub returns-clause-single : goal.returns-clause-single
returns-clause-single g c one =
    let scheme = c.args.self.now in
    let tree = c.args.tree.now in
    let s = shape (tree_batch tree) in
    is_single_opened (functions_of scheme) tree (cap_layer_of scheme s) (omega arith) g.met.M.Matrix.length_row_of _
    c.requires (returns-clause-opened g c).in_layers one
