-- What a salted scheme commits to, and what is proved under its commitments.
use Rattle.std.specs.Prelude.{ℕ, List}
use Rattle.p3_support.specs.Batches.{CanWiden}
use Rattle.p3_support.specs.Batches.{dimensions_in}
use Rattle.p3_support.specs.declared.matrix.Dimensions.{Dimensions}
use Rattle.p3_support.specs.declared.matrix.Matrix.{Ghosts}
use Rattle.p3_support.specs.declared.pair.HorizontalPair.{HorizontalPair}
use Rattle.p3_merkle_core.specs.Commitments.{IsCommitment}
use Rattle.p3_merkle_core.specs.Views.{heights_in}
use Rattle.p3_merkle_core.specs.Geometry.{IsLawful}
use Rattle.p3_merkle_core.specs.Nodes.{Batch}
use Rattle.p3_merkle_core.specs.Checks.{Params}
use Rattle.p3_merkle_tree.specs.SaltedOpenings.{IsSaltedAccepted, salted_of}
use Rattle.p3_merkle_tree.specs.SaltedTrees.{HaveSaltColumns}

-- matrices that can be committed to with e salts a row: their heights are lawful, and each width with the salts fits
-- usize
pub record CanCommitSalted {T M : Type 0} (height width : M → ℕ) (row : M → ℕ → List T) (e : ℕ)
    (matrices : List M) : Type 0 where
  pub lawful : IsLawful (heights_in height width row matrices)
  pub can_widen : CanWiden e (dimensions_in height width matrices)

-- a tree is built over a batch, this is its cap, and each of some pairs has e salts a row; that the batch is that of
-- the pairs is not said here: `CommitsSalted` takes both from one tree
pub record IsSaltedCommitment {T W A B : Type 0} {a : Ghosts A T} {b : Ghosts B T} (e : ℕ) (c : Params T W)
    (cap : List (List W)) (batch : Batch T) (stored : List (List (List W)))
    (pairs : List (HorizontalPair T A B a b)) : Type 0 where
  pub committed : IsCommitment c cap batch stored
  pub columns : HaveSaltColumns e pairs

-- some salts and siblings prove the rows at an index under a cap
pub record HaveSaltedProof {T W : Type 0} (e : ℕ) (dimensions : List Dimensions) (c : Params T W)
    (cap : List (List W)) (index : ℕ) (rows : List (List T)) : Type 0 where
  pub salts : List (List T)
  pub siblings : List (List W)
  pub is_accepted : IsSaltedAccepted e dimensions c cap (salted_of index rows salts siblings)
