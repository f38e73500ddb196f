-- The length of a row of two matrices side by side.
use Rattle.std.specs.Prelude.{◌≡◌, ℕ, ◌+◌, List, length}
use Rattle.std.proofs.Common.{◌∙◌, ap}
use Rattle.std.proofs.lemmas.List.{length-append}
use Rattle.p3_support.specs.Pairs.{pair_row}

module _ {T A B : Type 0} (left_row : A → ℕ → List T) (right_row : B → ℕ → List T) where
  -- it is the sum of the lengths of the left row and the right one
  pub length-pair_row : (left : A) (right : B) (r v w : ℕ) → length (left_row left r) ≡ v →
      length (right_row right r) ≡ w → length (pair_row left_row right_row left right r) ≡ v + w
  length-pair_row left right r v w long wide =
      length-append (left_row left r) (right_row right r) ∙ ap (λ n. n + length (right_row right r)) long
      ∙ ap (λ n. v + n) wide
