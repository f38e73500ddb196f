-- The greatest height is that of the batch.
use Rattle.std.proofs.Common.{ℕ, ◌<◌, subst}
use Rattle.std.specs.Prelude.{All}
use Rattle.p3_merkle_prover.specs.Parts.{matrices_of}
use Rattle.p3_merkle_tree.specs.Inner.CommitmentLaws.{greatest_is}
use Rattle.p3_merkle_tree.proofs.mmcs_trait.lemma_indices.Goals as goal

pub returns : goal.returns
returns g c = subst (λ (top : ℕ). All (λ index. index < top) c.args.indices.now)
    (greatest_is g.M.Matrix.height_of g.M.Matrix.width_of g.M.Matrix.row_of g.row.N (matrices_of c.args.tree.now))
    c.requires
