-- What is opened is what the other call opens, in the words of the trait.
use Rattle.std.proofs.Common.{◌∙◌, List, ap, subst}
use Rattle.std.proofs.lemmas.Result.{IfOk-weaker}
use Rattle.p3_support.specs.declared.matrix.Dimensions.{Dimensions}
use Rattle.p3_merkle_core.specs.Geometry.{shape_of}
use Rattle.p3_merkle_core.specs.Pruning.{IsPrunedAccepted}
use Rattle.p3_merkle_core.specs.Views.{pruned_of_pair}
use Rattle.p3_merkle_core.proofs.Lists.ViewFacts.{dimensions_are}
use Rattle.p3_merkle_prover.specs.Parts.{matrices_of}
use Rattle.p3_merkle_tree.specs.Inner.CommitmentLaws.{sets_are}
use Rattle.p3_merkle_tree.specs.Schemes.{params_of}
use Rattle.p3_merkle_tree.proofs.mmcs_trait.MerkleTreeMmcsMmcsValue.open_multi_batch.Goals as goal

pub returns-clause-rows : goal.returns-clause-rows
returns-clause-rows g c =
    let tree = c.args.prover_data.now in
    let sets = sets_are g.M.Matrix.height_of g.M.Matrix.width_of g.M.Matrix.row_of g.row.N (matrices_of tree)
    c.args.indices.now tree.lawful c.lemma_indices.ensures in
    IfOk-weaker c.open_multi_batch.result _ _ (λ o opened. ap (λ z. z.rows) opened.in_layers ∙ sets)
    c.open_multi_batch.ensures.opened

pub returns-clause-accepted : goal.returns-clause-accepted
returns-clause-accepted g c = λ roots own.
    IfOk-weaker c.open_multi_batch.result _ _ (λ o opened. subst (λ (ds : List Dimensions).
    IsPrunedAccepted (params_of c.args.self.now (shape_of g.row.N ds)) roots (pruned_of_pair c.args.indices.now o))
    (dimensions_are g.M.Matrix.height_of g.M.Matrix.width_of g.M.Matrix.row_of (matrices_of c.args.prover_data.now))
    (opened.is_accepted roots own)) c.open_multi_batch.ensures.opened
