-- The rows of two matrices side by side.
use Rattle.std.specs.Prelude.{ℕ, List, ◌++◌}
use Rattle.p3_support.specs.declared.matrix.Matrix.{Ghosts}
use Rattle.p3_support.specs.declared.pair.HorizontalPair.{HorizontalPair}

module _ {T A B : Type 0} {a : Ghosts A T} {b : Ghosts B T} where
  -- the left matrix
  abbrev pub left_of : HorizontalPair T A B a b → A
  left_of pair = pair.left

  -- the right matrix
  abbrev pub right_of : HorizontalPair T A B a b → B
  right_of pair = pair.right

module _ {T A B : Type 0} (left_row : A → ℕ → List T) (right_row : B → ℕ → List T) where
  -- row r of the left matrix, followed by row r of the right one
  abbrev pub pair_row : A → B → ℕ → List T
  pair_row left right r = left_row left r ++ right_row right r
