-- The copy has the facts of the tree.
use Rattle.std.proofs.Common.{ap, subst, sym, ◌∙◌, map}
use Rattle.p3_merkle_core.specs.Geometry.{heights, IsLawful}
use Rattle.p3_merkle_core.specs.Views.{batch_of}
use Rattle.p3_merkle_core.specs.Nodes.{Batch, shape}
use Rattle.p3_merkle_prover.specs.Parts.{tree_batch}
use Rattle.p3_merkle_prover.proofs.TreeFacts.{same_batch, same_lengths}
use Rattle.p3_merkle_prover.proofs.tree.MerkleTree+F+W+M+N+D.clone.Goals as goal

pub invariant_of-result-clause-lawful : goal.invariant_of-result-clause-lawful
invariant_of-result-clause-lawful g c =
    let same = same_batch g.M.Matrix.height_of g.M.Matrix.width_of g.M.Matrix.row_of g.row.N g.M.Clone.is_clone
    c.args.self.now.matrices.items c.in_ok-clone.field-0.items c.requires c.in_ok-clone.ensures.cases.0 in
    subst (λ (b : Batch _). IsLawful (heights (shape b))) (sym same) c.args.self.now.lawful

pub invariant_of-result-clause-layer_lengths : goal.invariant_of-result-clause-layer_lengths
invariant_of-result-clause-layer_lengths g c =
    let same = same_batch g.M.Matrix.height_of g.M.Matrix.width_of g.M.Matrix.row_of g.row.N g.M.Clone.is_clone
    c.args.self.now.matrices.items c.in_ok-clone.field-0.items c.requires c.in_ok-clone.ensures.cases.0 in
    same_lengths (tree_batch c.args.self.now)
    (batch_of g.M.Matrix.height_of g.M.Matrix.width_of g.M.Matrix.row_of g.row.N c.in_ok-clone.field-0.items)
    (λ nodes. nodes.items) (λ nodes. nodes.items)
    c.args.self.now.layers.items c.in_ok-copies_of.field-0.items (sym same)
    (c.in_ok-copies_of.ensures ∙ ap (λ vs. map (λ nodes. nodes.items) vs) c.deref.ensures.value)
    c.args.self.now.layer_lengths

pub invariant_of-result-clause-own_shape : goal.invariant_of-result-clause-own_shape
invariant_of-result-clause-own_shape g c =
    let same = same_batch g.M.Matrix.height_of g.M.Matrix.width_of g.M.Matrix.row_of g.row.N g.M.Clone.is_clone
    c.args.self.now.matrices.items c.in_ok-clone.field-0.items c.requires c.in_ok-clone.ensures.cases.0 in
    rw (c.in_ok-clone-2.ensures.arity, c.in_ok-clone-2.ensures.dimensions)
    (c.args.self.now.own_shape ∙ ap (λ b. shape b) (sym same))

pub returns-clause-batch : goal.returns-clause-batch
returns-clause-batch g c =
    same_batch g.M.Matrix.height_of g.M.Matrix.width_of g.M.Matrix.row_of g.row.N g.M.Clone.is_clone
    c.args.self.now.matrices.items c.in_ok-clone.field-0.items c.requires c.in_ok-clone.ensures.cases.0
