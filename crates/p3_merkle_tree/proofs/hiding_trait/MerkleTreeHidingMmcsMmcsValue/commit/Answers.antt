-- The matrices can be committed to; an error leaves the scheme, unless memory runs out.
use Rattle.std.proofs.Common.{◌≡◌, List, subst}
use Rattle.p3_support.specs.declared.matrix.Dimensions.{Dimensions}
use Rattle.p3_merkle_core.proofs.Lists.ViewFacts.{dimensions_are}
use Rattle.p3_merkle_core.specs.Refusals.{AnswersUnlessMemory}
use Rattle.p3_merkle_core.specs.declared.error.MerkleTreeError.TheVariants.{OutOfMemory}
use Rattle.p3_merkle_tree.specs.SaltRefusals.{salted_commit_refusal}
use Rattle.p3_merkle_tree.proofs.SaltedCommitmentFacts.{can_when_ok, memory_when_can}
use Rattle.p3_merkle_tree.proofs.SchemeFacts.{untouched_scheme}
use Rattle.p3_merkle_tree.proofs.hiding_trait.MerkleTreeHidingMmcsMmcsValue.commit.Goals as goal

pub returns-clause-matrices_accepted : goal.returns-clause-matrices_accepted
returns-clause-matrices_accepted g c = can_when_ok g.M.Matrix.height_of g.M.Matrix.width_of g.M.Matrix.row_of
    g.row.SALT_ELEMS
    c.args.matrices.items c.commit.result c.commit.ensures.answer

pub returns-clause-memory : goal.returns-clause-memory
returns-clause-memory g c = memory_when_can g.M.Matrix.height_of g.M.Matrix.width_of g.M.Matrix.row_of g.row.SALT_ELEMS
    c.args.matrices.items c.commit.result c.commit.ensures.answer

pub returns-clause-answer : goal.returns-clause-answer
returns-clause-answer g c =
    subst (λ (ds : List Dimensions). AnswersUnlessMemory c.commit.result (salted_commit_refusal g.row.SALT_ELEMS ds))
    (dimensions_are g.M.Matrix.height_of g.M.Matrix.width_of g.M.Matrix.row_of c.args.matrices.items)
    c.commit.ensures.answer

pub returns-clause-untouched : goal.returns-clause-untouched
returns-clause-untouched g c = untouched_scheme c.commit.result (λ e. e ≡ OutOfMemory) c.commit.new.self c.args.self.now
    c.commit.ensures.drawn.scheme c.commit.ensures.untouched
