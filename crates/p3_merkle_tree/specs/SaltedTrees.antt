-- Pairs of a matrix and its salts, and what is committed to.
use Rattle.std.specs.Prelude.{◌≡◌, ℕ, List, map, All}
use Rattle.p3_support.specs.declared.matrix.Matrix.{Ghosts}
use Rattle.p3_support.specs.declared.pair.HorizontalPair.{HorizontalPair}
use Rattle.p3_support.specs.Pairs.{left_of, right_of}
use Rattle.p3_support.specs.declared.matrix.Dimensions.{Dimensions}
use Rattle.p3_merkle_core.specs.Views.{batch_of}
use Rattle.p3_merkle_core.specs.Nodes.{Batch, dimensions_of}

module _ {T A B : Type 0} {a : Ghosts A T} {b : Ghosts B T} where
  -- the left matrices, under an arity: those that were handed in
  abbrev pub left_batch : ℕ → List (HorizontalPair T A B a b) → Batch T
  left_batch n pairs = batch_of a.height_of a.width_of a.row_of n (map left_of pairs)

  -- their dimensions
  abbrev pub unsalted_dimensions : ℕ → List (HorizontalPair T A B a b) → List Dimensions
  unsalted_dimensions n pairs = dimensions_of (left_batch n pairs).matrices

  -- the right matrices: their salts
  abbrev pub right_batch : ℕ → List (HorizontalPair T A B a b) → Batch T
  right_batch n pairs = batch_of b.height_of b.width_of b.row_of n (map right_of pairs)

  -- each matrix has e salts a row
  abbrev pub HaveSaltColumns : ℕ → List (HorizontalPair T A B a b) → Type 0
  HaveSaltColumns e pairs = All (λ pair. b.width_of (right_of pair) ≡ e) pairs
