-- Matrices are committed to exactly if their heights are lawful.
use Rattle.p3_merkle_core.specs.Views.{heights_in}
use Rattle.p3_merkle_tree.proofs.CommitmentFacts.{lawful_when_ok, memory_when_lawful}
use Rattle.p3_merkle_tree.proofs.mmcs_trait.MerkleTreeMmcsMmcsValue.commit.Goals as goal

pub returns-clause-matrices_accepted : goal.returns-clause-matrices_accepted
returns-clause-matrices_accepted g c =
    lawful_when_ok (heights_in g.M.Matrix.height_of g.M.Matrix.width_of g.M.Matrix.row_of c.args.matrices.items)
    c.commit.result c.commit.ensures.answer

pub returns-clause-memory : goal.returns-clause-memory
returns-clause-memory g c =
    memory_when_lawful (heights_in g.M.Matrix.height_of g.M.Matrix.width_of g.M.Matrix.row_of c.args.matrices.items)
    c.commit.result c.commit.ensures.answer
