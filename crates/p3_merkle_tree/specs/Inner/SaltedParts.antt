-- Rows without their salts, the salts alone, and a matrix beside its salts as one matrix.
use Rattle.std.specs.Prelude.{ℕ, ◌+◌, List, map, zip, take, drop}
use Rattle.p3_support.specs.declared.matrix.Matrix.{Ghosts}
use Rattle.p3_support.specs.declared.pair.HorizontalPair.{HorizontalPair}
use Rattle.p3_support.specs.Pairs.{left_of, pair_row, right_of}
use Rattle.p3_merkle_core.specs.Views.{matrix_of}
use Rattle.p3_merkle_core.specs.Nodes.{Matrix}

-- the words of rows up to the widths of their matrices without salts
abbrev pub unsalted_parts : {T : Type 0} → List ℕ → List (List T) → List (List T)
unsalted_parts widths rows = map (λ (row, w). take w row) (zip rows widths)

-- the words after them
abbrev pub salt_parts : {T : Type 0} → List ℕ → List (List T) → List (List T)
salt_parts widths rows = map (λ (row, w). drop w row) (zip rows widths)

module _ {T A B : Type 0} {a : Ghosts A T} {b : Ghosts B T} where
  -- the widths of the left matrices
  abbrev pub left_widths : List (HorizontalPair T A B a b) → List ℕ
  left_widths pairs = map (λ p. a.width_of (left_of p)) pairs

  -- a pair, seen as one matrix
  abbrev pub pair_matrix : HorizontalPair T A B a b → Matrix T
  pair_matrix =
      matrix_of (λ p. a.height_of (left_of p)) (λ p. a.width_of (left_of p) + b.width_of (right_of p))
      (λ p. pair_row a.row_of b.row_of (left_of p) (right_of p))
