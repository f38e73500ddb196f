-- The greatest height is that of the batch.
use Rattle.std.proofs.Common.{◌∙◌, sym}
use Rattle.p3_merkle_prover.specs.Parts.{matrices_of}
use Rattle.p3_merkle_tree.specs.Inner.CommitmentLaws.{greatest_is}
use Rattle.p3_merkle_tree.proofs.mmcs_trait.MerkleTreeMmcsMmcsValue.get_max_height.Goals as goal

pub returns : goal.returns
returns g c = c.get_max_height.ensures
    ∙ sym (greatest_is g.M.Matrix.height_of g.M.Matrix.width_of g.M.Matrix.row_of g.row.N
    (matrices_of c.args.prover_data.now))
