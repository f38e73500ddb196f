-- What is opened is what the other call opens, in the words of the trait.
use Rattle.std.proofs.Common.{◌∙◌, List, ap, subst}
use Rattle.std.proofs.lemmas.Result.{IfOk-weaker}
use Rattle.p3_support.specs.declared.matrix.Dimensions.{Dimensions}
use Rattle.p3_merkle_core.specs.Checks.{IsAccepted}
use Rattle.p3_merkle_core.specs.Geometry.{shape_of}
use Rattle.p3_merkle_core.specs.Views.{opening_owned}
use Rattle.p3_merkle_core.proofs.Lists.ViewFacts.{dimensions_are}
use Rattle.p3_merkle_prover.specs.Parts.{matrices_of}
use Rattle.p3_merkle_tree.specs.Inner.CommitmentLaws.{rows_are}
use Rattle.p3_merkle_tree.specs.Schemes.{params_of}
use Rattle.p3_merkle_tree.proofs.mmcs_trait.MerkleTreeMmcsMmcsValue.open_batch.Goals as goal

pub returns-clause-rows : goal.returns-clause-rows
returns-clause-rows g c =
    let tree = c.args.prover_data.now in
    let rows = rows_are g.M.Matrix.height_of g.M.Matrix.width_of g.M.Matrix.row_of g.row.N (matrices_of tree)
    c.args.index tree.lawful c.lemma_index.ensures in
    IfOk-weaker c.open_batch.result _ _ (λ o opened. ap (λ z. z.rows) opened.in_layers ∙ rows)
    c.open_batch.ensures.opened

pub returns-clause-accepted : goal.returns-clause-accepted
returns-clause-accepted g c = λ roots own.
    IfOk-weaker c.open_batch.result _ _ (λ o opened. subst (λ (ds : List Dimensions).
    IsAccepted (params_of c.args.self.now (shape_of g.row.N ds)) roots (opening_owned c.args.index o))
    (dimensions_are g.M.Matrix.height_of g.M.Matrix.width_of g.M.Matrix.row_of (matrices_of c.args.prover_data.now))
    (opened.is_accepted roots own)) c.open_batch.ensures.opened
