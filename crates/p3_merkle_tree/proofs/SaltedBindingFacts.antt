-- Rows of pairs tell the rows of the left matrices and those of the right ones.
use Rattle.std.proofs.Common.{◌≡◌, ◌∙◌, ℕ, zero, suc, ◌<◌, Bool, true, false, cond, nat_lt, List, [], ◌∷◌, ◌++◌, ap}
use Rattle.std.proofs.Common.{arith}
use Rattle.std.proofs.Common.{get_or, inl, inr, length, refl, sym}
use Rattle.std.proofs.lemmas.Bool.{cases_lt, le-ltb, lt-ltb}
use Rattle.std.specs.Prelude.{Ok, Err, Option, Result}
use Rattle.p3_support.specs.Batches.{heights_of, widened, widths_of}
use Rattle.p3_support.specs.declared.matrix.Dimensions.{Dimensions}
use Rattle.p3_support.specs.declared.matrix.Matrix.{Ghosts}
use Rattle.p3_support.specs.declared.pair.HorizontalPair.{HorizontalPair}
use Rattle.p3_support.specs.Pairs.{left_of, right_of}
use Rattle.p3_merkle_core.specs.Checks.{Params}
use Rattle.p3_merkle_core.specs.Geometry.{shape_of}
use Rattle.p3_merkle_core.specs.Nodes.{shape}
use Rattle.p3_merkle_core.specs.declared.cap.CapRule.{CapRule}
use Rattle.p3_merkle_core.specs.declared.collision.InputPair.{InputPair}
use Rattle.p3_merkle_core.specs.declared.error.MerkleTreeError.{MerkleTreeError}
use Rattle.p3_merkle_tree.specs.Binding.{IsBinding, row_at}
use Rattle.p3_merkle_tree.specs.SaltedBinding.{AreAlike, TellsOfSalts}
use Rattle.p3_merkle_tree.specs.SaltedTrees.{HaveSaltColumns, left_batch, right_batch, unsalted_dimensions}
use Rattle.p3_merkle_tree.proofs.JoinedFacts.{front_same, rest_same}
use Rattle.p3_merkle_tree.proofs.SplitFacts.{pair_batch, wide_is}

-- a test that picks both parts picks their whole
both_parts : {T : Type 0} (test : Bool) (x y : List T) → cond test (x ++ y) [] ≡ cond test x [] ++ cond test y []
both_parts true x y = refl
both_parts false x y = refl

module _ {T A B : Type 0} {a : Ghosts A T} {b : Ghosts B T} where
  -- a row of a pair is one of the left matrix followed by one of the right
  pub pair_row_at : (n : ℕ) (pairs : List (HorizontalPair T A B a b)) (k j : ℕ) →
      row_at (pair_batch n pairs) k j ≡ row_at (left_batch n pairs) k j ++ row_at (right_batch n pairs) k j
  pair_row_at n [] k j = refl
  pair_row_at n (p ∷ pairs) zero j =
      both_parts (nat_lt j (a.height_of (left_of p))) (a.row_of (left_of p) j) (b.row_of (right_of p) j)
      ∙ ap (λ (h : ℕ). cond (nat_lt j (a.height_of (left_of p))) (a.row_of (left_of p) j) []
      ++ cond (nat_lt j h) (b.row_of (right_of p) j) []) p.one_height
  pair_row_at n (p ∷ pairs) (suc k) j = pair_row_at n pairs k j

  -- a row of a left matrix is as long as the dimensions say
  pub left_length : (n : ℕ) (pairs : List (HorizontalPair T A B a b)) (law : (m : A) (r : ℕ) → r < a.height_of m →
      length (a.row_of m r) ≡ a.width_of m) (k j : ℕ) →
      length (row_at (left_batch n pairs) k j)
      ≡ cond (nat_lt j (get_or (heights_of (unsalted_dimensions n pairs)) k 0))
      (get_or (widths_of (unsalted_dimensions n pairs)) k 0) 0
  left_length n [] law k j = rw (le-ltb j 0 (omega arith)) refl
  left_length n (p ∷ pairs) law zero j =
      elim (cases_lt j (a.height_of (left_of p))) [
        | inl below ↦ rw (lt-ltb j (a.height_of (left_of p)) below) (law (left_of p) j below)
        | inr above ↦ rw (le-ltb j (a.height_of (left_of p)) above) refl
      ]
  left_length n (p ∷ pairs) law (suc k) j = left_length n pairs law k j

  -- with e salts a row, the shape is that of so much wider matrices
  pub pair_shape : (n e : ℕ) (pairs : List (HorizontalPair T A B a b)) → HaveSaltColumns e pairs →
      shape (pair_batch n pairs) ≡ shape_of n (widened e (unsalted_dimensions n pairs))
  pair_shape n e pairs w = ap (shape_of n) (wide_is n e pairs w)

module _ {T A B S U : Type 0} {a : Ghosts A T} {b : Ghosts B T} {s : Ghosts S T} {u : Ghosts U T} (n e : ℕ)
    (first : List (HorizontalPair T A S a s)) (second : List (HorizontalPair T B U b u))
    (alike : AreAlike n e first second) where
  -- pairs whose left matrices have the same dimensions, with e salts a row, have one shape
  pub one_shape : shape (pair_batch n first) ≡ shape (pair_batch n second)
  one_shape =
      pair_shape n e first alike.first_columns ∙ ap (λ ds. shape_of n (widened e ds)) alike.same_dimensions
      ∙ sym (pair_shape n e second alike.second_columns)

  module _ (first_law : (m : A) (r : ℕ) → r < a.height_of m → length (a.row_of m r) ≡ a.width_of m)
      (second_law : (m : B) (r : ℕ) → r < b.height_of m → length (b.row_of m r) ≡ b.width_of m) where
    same_lengths : (k j : ℕ) → length (row_at (left_batch n first) k j) ≡ length (row_at (left_batch n second) k j)
    same_lengths k j =
        left_length n first first_law k j
        ∙ ap (λ (ds : List Dimensions). cond (nat_lt j (get_or (heights_of ds) k 0)) (get_or (widths_of ds) k 0) 0)
        alike.same_dimensions ∙ sym (left_length n second second_law k j)

    same_joined : (k j : ℕ) → row_at (pair_batch n first) k j ≡ row_at (pair_batch n second) k j →
        row_at (left_batch n first) k j ++ row_at (right_batch n first) k j
        ≡ row_at (left_batch n second) k j ++ row_at (right_batch n second) k j
    same_joined k j same = sym (pair_row_at n first k j) ∙ same ∙ pair_row_at n second k j

    same_left : (k j : ℕ) → row_at (pair_batch n first) k j ≡ row_at (pair_batch n second) k j →
        row_at (left_batch n first) k j ≡ row_at (left_batch n second) k j
    same_left k j same = front_same _ _ _ _ (same_lengths k j) (same_joined k j same)

    same_right : (k j : ℕ) → row_at (pair_batch n first) k j ≡ row_at (pair_batch n second) k j →
        row_at (right_batch n first) k j ≡ row_at (right_batch n second) k j
    same_right k j same = rest_same _ _ _ _ (same_lengths k j) (same_joined k j same)

    -- so what is found in the pairs tells of rows and salts
    pub tells_of_salts : {W : Type 0} (rule : CapRule) (c : Params T W) (cap : List (List W))
        (layers others : List (List (List W))) (r : Result (Option (ℕ × InputPair T (List W))) MerkleTreeError) →
        IsBinding c cap (pair_batch n first) layers (pair_batch n second) others rule r →
        TellsOfSalts n rule c first second r
    tells_of_salts rule c cap layers others (Ok found) is =
        record {
          rows = λ none k inside there j below. same_left k j (is.bound none k inside there j below);
          salts = λ none k inside there j below. same_right k j (is.bound none k inside there j below);
          lowered_rows = λ lowered none k inside j below. same_left k j (is.lowered lowered none k inside j below);
          lowered_salts = λ lowered none k inside j below. same_right k j (is.lowered lowered none k inside j below);
        }
    tells_of_salts rule c cap layers others (Err x) is =
        record { rows = tt; salts = tt; lowered_rows = λ lowered. tt; lowered_salts = λ lowered. tt }
