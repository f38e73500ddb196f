-- Lanes 0 to 3 are from the first four messages, and lanes 4 to 7 from the four after them.
use Rattle.std.proofs.Common.{arith, ℕ, ◌≡◌, ◌+◌, ◌++◌, ◌∙◌, ap, refl, List, [], ◌∷◌, slice_range, get_or}
use Rattle.p3_support.specs.Lists.{message}
use Rattle.p3_hashes.specs.Inner.Transposed.{transposed}
use Rattle.sha256_eights.proofs.Lanewise.{each_lane}
use Rattle.p3_hashes.proofs.Transposed.{transposed_lanes}
use Rattle.p3_hashes.proofs.eights.columns_of_eight.Goals as goal

pub returns : goal.returns
returns c = λ k below.
    let words = λ (m : ℕ). slice_range (message c.args.width c.args.messages.now m) c.args.column (c.args.column + 4) in
    let row = λ (j : ℕ). words (c.args.first + j) in
    let later = λ (j : ℕ). words (c.args.first + 4 + j) in
    let front = c.columns_of_four-front.result in
    let back = c.columns_of_four-back.result in
    let long = λ (j : ℕ). c.columns_of_four-front.ensures.long j in
    let too = λ (j : ℕ). c.columns_of_four-back.ensures.long j in
    let first = transposed (row 0) (row 1) (row 2) (row 3) in
    let second = transposed (later 0) (later 1) (later 2) (later 3) in
    let joined : (i : ℕ) → get_or front i [] ++ get_or back i [] ≡ get_or first i [] ++ get_or second i [] =
    λ i. ap (λ (l : List (List ℕ)). get_or l i [] ++ get_or back i []) c.columns_of_four-front.ensures.columns
    ∙ ap (λ (l : List (List ℕ)). get_or first i [] ++ get_or l i []) c.columns_of_four-back.ensures.columns in
    let same : (j : ℕ) → later j ≡ row (4 + j) = λ j. let place : c.args.first + 4 + j
    ≡ c.args.first + (4 + j) = omega arith in ap words place in
    transposed_lanes (row 0) (row 1) (row 2) (row 3) (later 0) (later 1) (later 2) (later 3) _ _ _ _
    (long 0 (omega arith)) (long 1 (omega arith)) (long 2 (omega arith)) (long 3 (omega arith))
    (too 0 (omega arith)) (too 1 (omega arith)) (too 2 (omega arith)) (too 3 (omega arith)) (c.join.ensures ∙ joined 0)
    (c.join-2.ensures ∙ joined 1) (c.join-3.ensures ∙ joined 2)
    (c.join-4.ensures ∙ joined 3) k below
    ∙ each_lane (λ j. get_or (row 0 ∷ row 1 ∷ row 2 ∷ row 3 ∷ later 0 ∷ later 1 ∷ later 2 ∷ later 3 ∷ []) j [] ≡ row j)
    refl refl refl refl (same 0) (same 1) (same 2) (same 3) k below
