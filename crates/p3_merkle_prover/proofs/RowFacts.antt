-- The rows that a tree opens: where they stand, and that they are the honest ones.
use Rattle.std.proofs.Common.{◌≡◌, ℕ, zero, suc, ◌+◌, ◌<◌, ◌≤◌, List, [], ◌∷◌, ◌++◌, map, refl, ap, sym, subst, ◌∙◌}
use Rattle.std.proofs.Common.{arith, length, get_or, take}
use Rattle.std.proofs.lemmas.Bool.{lt-ltb}
use Rattle.std.proofs.lemmas.List.{take_more, map-append, length-map}
use Rattle.p3_merkle_core.specs.Geometry.{bits_reduced, heights, halved_index, height_limit, IsLawful}
use Rattle.p3_merkle_core.specs.Views.{batch_of, matrix_of}
use Rattle.p3_merkle_core.specs.Nodes.{shape, HasFullRows}
use Rattle.p3_merkle_core.specs.Openings.{honest_rows}
use Rattle.p3_support.specs.Batches.{greatest}
use Rattle.p3_merkle_core.proofs.Shapes.LadderFacts.{row_below}
use Rattle.p3_merkle_core.proofs.Shapes.LeastFacts.{exponent_le}
use Rattle.p3_merkle_core.proofs.Shapes.GateFacts.{tallest_fits, none_large_from_lawful}

-- lawful heights are within the limit
pub lawful_fits : (hs : List ℕ) → IsLawful hs → greatest hs ≤ height_limit
lawful_fits hs w = tallest_fits hs (none_large_from_lawful hs w)

-- a lawful height is halved fewer than 64 times
pub few_halvings : (hs : List ℕ) (h : ℕ) → IsLawful hs → bits_reduced (greatest hs) h < 64
few_halvings hs h w = omega (arith, exponent_le (greatest hs) 62 (lawful_fits hs w))

module _ {T M : Type 0} (height width : M → ℕ) (row : M → ℕ → List T) (n : ℕ) where
  -- the heights of a batch, read in input order
  height_read : (ms : List M) (k : ℕ) (m : M) → k < length ms →
      get_or (heights (shape (batch_of height width row n ms))) k (height m) ≡ height (get_or ms k m)
  height_read [] k m h = absurd (omega arith)
  height_read (x ∷ ms) zero m h = refl
  height_read (x ∷ ms) (suc k) m h = height_read ms k m (omega arith)

  -- they are as many as the matrices
  heights_count : (ms : List M) → length (heights (shape (batch_of height width row n ms))) ≡ length ms
  heights_count [] = refl
  heights_count (x ∷ ms) = ap suc (heights_count ms)

  -- each matrix has the row that belongs to an index
  pub row_inside : (ms : List M) (k i : ℕ) (m : M) → IsLawful (heights (shape (batch_of height width row n ms))) →
      i < greatest (heights (shape (batch_of height width row n ms))) →
      k < length ms → m ≡ get_or ms k m →
      halved_index (greatest (heights (shape (batch_of height width row n ms)))) (height m) i < height m
  row_inside ms k i m w below h is =
      let s = shape (batch_of height width row n ms) in
      let same : get_or (heights s) k (height m) ≡ height m = height_read ms k m h ∙ ap height (sym is) in
      let many = heights_count ms in
      row_below s (height m) i (rw same at (w.on_ladder k (height m) (omega arith))) below

  -- there is one for each matrix
  pub rows_count : (ms : List M) (i : ℕ) → length (honest_rows (batch_of height width row n ms) i) ≡ length ms
  rows_count ms i =
      let b = batch_of height width row n ms in
      length-map b.matrices (λ x. x.row (halved_index (greatest (heights (shape b))) x.height i))
      ∙ length-map ms (matrix_of height width row)

  -- a row of each matrix, read in input order
  picked_read : (pick : ℕ → ℕ) (ms : List M) (k : ℕ) (m : M) → k < length ms →
      pick (height (get_or ms k m)) < height (get_or ms k m) →
      get_or (map (λ x. x.row (pick x.height)) (map (matrix_of height width row) ms)) k (row m (pick (height m)))
      ≡ row (get_or ms k m) (pick (height (get_or ms k m)))
  picked_read pick [] k m h inside = absurd (omega arith)
  picked_read pick (x ∷ ms) zero m h inside = let there = lt-ltb (pick (height x)) (height x) inside in rw there refl
  picked_read pick (x ∷ ms) (suc k) m h inside = picked_read pick ms k m (omega arith) inside

  -- one row more
  pub row_next : {V : Type 0} (items : V → List T) (ms : List M) (k i : ℕ) (m : M) (old new : List V) (v : V) →
      k < length ms → m ≡ get_or ms k m →
      halved_index (greatest (heights (shape (batch_of height width row n ms)))) (height m) i < height m →
      map items old ≡ take k (honest_rows (batch_of height width row n ms) i) → new ≡ old ++ v ∷ [] → items v
      ≡ row m (halved_index (greatest (heights (shape (batch_of height width row n ms)))) (height m) i) →
      map items new ≡ take (k + 1) (honest_rows (batch_of height width row n ms) i)
  row_next items ms k i m old new v h is inside is_old is_new at =
      let b = batch_of height width row n ms in
      let pick : ℕ → ℕ = λ x. halved_index (greatest (heights (shape b))) x i in
      let all = honest_rows b i in
      let long = rows_count ms i in
      let read : get_or all k (row m (pick (height m))) ≡ row m (pick (height m)) =
      picked_read pick ms k m h (subst (λ x. pick (height x) < height x) is inside)
      ∙ ap (λ x. row x (pick (height x))) (sym is) in
      rw (is_new, map-append, is_old, at)
      (sym (take_more all k (row m (pick (height m))) (omega arith)
      ∙ ap (λ (x : List _). take k all ++ x ∷ []) read))

  -- rows are as wide as their matrices
  pub full_rows : ((m : M) (j : ℕ) → j < height m → length (row m j) ≡ width m) → (ms : List M) →
      HasFullRows (batch_of height width row n ms)
  full_rows law [] k d h = absurd (omega arith)
  full_rows law (m ∷ ms) zero d h = λ j below. let there = lt-ltb j (height m) below in rw there (law m j below)
  full_rows law (m ∷ ms) (suc k) d h = full_rows law ms k d (omega arith)
