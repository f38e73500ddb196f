-- The greatest height is that of the batch.
use Rattle.p3_merkle_prover.specs.Parts.{matrices_of}
use Rattle.p3_merkle_tree.specs.Inner.CommitmentLaws.{greatest_is}
use Rattle.p3_merkle_tree.proofs.mmcs_trait.lemma_index.Goals as goal

pub returns : goal.returns
returns g c =
    rw (greatest_is g.M.Matrix.height_of g.M.Matrix.width_of g.M.Matrix.row_of g.row.N (matrices_of c.args.tree.now)) at
    c.requires
