-- What is opened is what the other call opens, in the words of the trait.
use Rattle.std.proofs.Common.{◌∙◌, List, map, subst}
use Rattle.std.proofs.lemmas.Result.{IfOk-weaker}
use Rattle.std.specs.Prelude.{◌<◌, ℕ, All}
use Rattle.p3_support.specs.Pairs.{left_of}
use Rattle.p3_support.specs.declared.matrix.Dimensions.{Dimensions}
use Rattle.p3_merkle_prover.specs.Parts.{matrices_of}
use Rattle.p3_merkle_tree.specs.Inner.CommitmentLaws.{greatest_is, sets_are}
use Rattle.p3_merkle_core.proofs.Lists.ViewFacts.{dimensions_are}
use Rattle.p3_merkle_tree.specs.HidingSchemes.{salted_params_of, salted_pruned_owned}
use Rattle.p3_merkle_tree.specs.Inner.SaltedCommitmentLaws.{left_lawful}
use Rattle.p3_merkle_tree.specs.SaltedOpenings.{IsSaltedPrunedAccepted}
use Rattle.p3_merkle_tree.proofs.hiding_trait.MerkleTreeHidingMmcsMmcsValue.open_multi_batch.Goals as goal

pub returns-clause-rows : goal.returns-clause-rows
returns-clause-rows g c =
    let tree = c.args.prover_data.now in
    let ms = map left_of (matrices_of tree) in
    let below = subst (λ (top : ℕ). All (λ index. index < top) c.args.indices.now)
    (greatest_is g.M.Matrix.height_of g.M.Matrix.width_of g.M.Matrix.row_of g.row.N ms) c.requires in
    let sets = sets_are g.M.Matrix.height_of g.M.Matrix.width_of g.M.Matrix.row_of g.row.N ms c.args.indices.now
    (left_lawful (matrices_of tree) tree.lawful) below in
    IfOk-weaker c.open_multi_batch.result _ _ (λ o opened. opened.rows ∙ sets) c.open_multi_batch.ensures.opened

pub returns-clause-accepted : goal.returns-clause-accepted
returns-clause-accepted g c = λ roots own.
    IfOk-weaker c.open_multi_batch.result _ _ (λ o opened. subst (λ (ds : List Dimensions).
    IsSaltedPrunedAccepted g.row.SALT_ELEMS ds (salted_params_of c.args.self.now ds) roots
    (salted_pruned_owned c.args.indices.now o))
    (dimensions_are g.M.Matrix.height_of g.M.Matrix.width_of g.M.Matrix.row_of
    (map left_of (matrices_of c.args.prover_data.now))) (opened.is_accepted roots own))
    c.open_multi_batch.ensures.opened
