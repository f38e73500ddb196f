-- What the facts of a tree say of its layers.
use Rattle.std.proofs.Common.{◌≡◌, ℕ, suc, ◌<◌, ◌≤◌, cond, nat_lt, List, map, refl, ap, sym, ◌∙◌, arith, inl, inr}
use Rattle.std.proofs.Common.{length, get_or, All}
use Rattle.std.proofs.lemmas.Bool.{cases_lt, le-ltb}
use Rattle.std.proofs.lemmas.Option.{slice_get_read}
use Rattle.std.proofs.lemmas.List.FromFn.{length-map-range_with_len, get_or-map-range_with_len}
use Rattle.std.proofs.lemmas.List.{length-map, get_or-map}
use Rattle.std.proofs.lemmas.Simd.{map-map}
use Rattle.std.specs.Prelude.{[], ◌∷◌, Some, slice_get}
use Rattle.std.specs.List.{AllZip, range_with_len}
use Rattle.p3_merkle_core.specs.Geometry.{Shape, heights, layer_len, levels, raw_len, padded_len, IsArity, IsLawful}
use Rattle.p3_merkle_core.specs.Views.{batch_of, matrix_of, ClonesShowTheSame, ShowsTheSame}
use Rattle.p3_merkle_core.specs.Nodes.{Functions, Batch, Matrix, shape, node, layer, layers}
use Rattle.p3_merkle_prover.proofs.LayerFacts.{same_made}
use Rattle.p3_merkle_core.proofs.Shapes.LadderFacts.{exponent_at_levels}
use Rattle.p3_merkle_core.proofs.Shapes.RawFacts.{filled}

module _ {V : Type 0} (len : V → ℕ) (vs : List V) (s : Shape) where
  -- a tree has one layer more than levels
  pub layers_count : map len vs ≡ map (layer_len s) (range_with_len 0 (suc (levels s))) → length vs ≡ suc (levels s)
  layers_count e = sym (length-map vs len) ∙ ap length e ∙ length-map-range_with_len (layer_len s) 0 (suc (levels s))

  -- each of its length
  pub layer_long : map len vs ≡ map (layer_len s) (range_with_len 0 (suc (levels s))) → (l : ℕ) (v : V) → l ≤ levels s →
      v ≡ get_or vs l v → len v ≡ layer_len s l
  layer_long e l v h is =
      let many = layers_count e in
      ap len is ∙ sym (get_or-map len vs l v (len v) (omega arith))
      ∙ ap (λ (z : List ℕ). get_or z l (len v)) e
      ∙ get_or-map-range_with_len (layer_len s) 0 (suc (levels s)) l l (len v) (omega arith) (omega arith)

-- the layers of the definition are of their lengths
pub lengths_from : {V T W : Type 0} (items : V → List (List W)) (vs : List V) (f : Functions T W) (b : Batch T) →
    map items vs ≡ layers f b →
    map (λ v. length (items v)) vs ≡ map (layer_len (shape b)) (range_with_len 0 (suc (levels (shape b))))
lengths_from items vs f b e =
    sym (map-map length items vs) ∙ ap (λ (z : List (List (List _))). map length z) e
    ∙ map-map length (layer f b) (range_with_len 0 (suc (levels (shape b))))
    ∙ same_made (λ l. length (layer f b l)) (layer_len (shape b)) (suc (levels (shape b)))
    (λ l h. length-map-range_with_len (node f b l) 0 (layer_len (shape b) l))

-- a layer read by its place, as a list
pub layer_read : {V A : Type 0} (items : V → List A) (vs : List V) (l : ℕ) (v : V) → l < length vs → v ≡ get_or vs l v →
    slice_get (map items vs) l ≡ Some (items v)
layer_read items vs l v h is =
    slice_get_read (map items vs) (length vs) l (items v) (sym (length-map vs items)) h
    (ap items is ∙ sym (get_or-map items vs l v (items v) h))

-- the last layer has one node
pub top_len : (s : Shape) → IsArity s.arity → IsLawful (heights s) → layer_len s (levels s) ≡ 1
top_len s w lawful =
    let f = rw (exponent_at_levels s w) at (filled s w lawful.some_above_0 (levels s) (omega arith)) in
    let one : raw_len s (levels s) ≡ 1 = omega (arith, f.fits, f.above_half) in
    ap (λ r. padded_len r s.arity) one

-- layers that are the same have the same lengths
pub same_lengths : {T V U A : Type 0} (b d : Batch T) (items : V → List A) (copied : U → List A) (vs : List V)
    (us : List U) → b ≡ d → map copied us ≡ map items vs →
    map (λ v. length (items v)) vs ≡ map (layer_len (shape b)) (range_with_len 0 (suc (levels (shape b)))) →
    map (λ u. length (copied u)) us ≡ map (layer_len (shape d)) (range_with_len 0 (suc (levels (shape d))))
same_lengths b d items copied vs us same e long =
    sym (map-map length copied us) ∙ ap (λ (z : List (List _)). map length z) e ∙ map-map length items vs ∙ long
    ∙ ap (λ (z : Batch _). map (layer_len (shape z)) (range_with_len 0 (suc (levels (shape z))))) same

module _ {T M : Type 0} (height width : M → ℕ) (row : M → ℕ → List T) where
  -- matrices that show the same are one matrix of a batch
  same_matrix : (m other : M) → ShowsTheSame height width row m other → matrix_of height width row other
      ≡ matrix_of height width row m
  same_matrix m other w =
      let same : (j : ℕ) → cond (nat_lt j (height other)) (row other j) [] ≡ cond (nat_lt j (height m)) (row m j) [] =
      λ j. ap (λ h. cond (nat_lt j h) (row other j) []) w.same_height
      ∙ elim (cases_lt j (height m)) [
        | inl lt ↦ ap (λ words. cond (nat_lt j (height m)) words []) (w.same_rows j lt)
        | inr ge ↦ let none = le-ltb j (height m) ge in rw none refl
      ] in
      λ i. record { height = w.same_height i; width = w.same_width i; row = λ j. same j i }

  -- clones that show the same make the same batch
  same_matrices : (is_clone : M → M → Type 0) (xs ys : List M) → All (ClonesShowTheSame height width row is_clone) xs →
      AllZip is_clone xs ys → map (matrix_of height width row) ys ≡ map (matrix_of height width row) xs
  same_matrices is_clone [] [] keeps all = refl
  same_matrices is_clone [] (y ∷ ys) keeps all = absurd all
  same_matrices is_clone (x ∷ xs) [] keeps all = absurd all
  same_matrices is_clone (x ∷ xs) (y ∷ ys) keeps all =
      let first = same_matrix x y (keeps 0 x (omega arith) y all.0) in
      let rest = same_matrices is_clone xs ys (λ k d h. keeps (suc k) d (omega arith)) all.1 in
      λ i. first i ∷ rest i

  pub same_batch : (n : ℕ) (is_clone : M → M → Type 0) (ms clones : List M) →
      All (ClonesShowTheSame height width row is_clone) ms → AllZip is_clone ms clones →
      batch_of height width row n clones ≡ batch_of height width row n ms
  same_batch n is_clone ms clones keeps all = ap (λ (xs : List (Matrix T)). record { arity = n; matrices = xs })
      (same_matrices is_clone ms clones keeps all)
