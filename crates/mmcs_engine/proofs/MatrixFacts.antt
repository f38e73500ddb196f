-- A stored matrix by its rows.
use Rattle.std.proofs.Common.{◌≡◌, ℕ, ◌+◌, ◌-◌, ◌*◌, ◌/◌, ◌<◌, ◌≤◌, cond, nat_lt, List, [], ◌∷◌, length, map, take, sym}
use Rattle.std.proofs.Common.{ap, ◌∙◌, refl, arith, inl, inr, suc, zero, ◌++◌, get_or, drop, length-append}
use Rattle.std.proofs.lemmas.Bool.{cases_lt, lt-ltb, le-ltb}
use Rattle.std.proofs.lemmas.List.{drop_all, length-map, get_or-map, map-id}
use Rattle.std.proofs.lemmas.List.Elements.{All-get_or, All-head, All-tail}
use Rattle.std.proofs.Math.Nat.{mul-div_cancel, mul-le-mul_right, add-mul, one-mul, zero-mul}
use Rattle.std.proofs.Math.Seq.{take-nil, drop-append-add, take-append_seam, drop-nil}
use Rattle.std.specs.Prelude.{slice_index_or, flat_map, All, slice_range}
use Rattle.std.specs.List.{AllZip}
use Rattle.p3_support.specs.declared.matrix.RowMajorMatrix.{RowMajorMatrix}
use Rattle.p3_support.specs.Batches.{dimensions_in}
use Rattle.p3_support.specs.Lists.{message}
use Rattle.p3_support.specs.RowMajor.{values_of, row_width, row_count}
use Rattle.mmcs_engine.specs.Input.{numbers_of, StandsFor}
use Rattle.mmcs_engine.specs.Inner.Blocks.{IsBlock}
use Rattle.mmcs_engine.specs.Matrices.{matrix_of_rows}
use Rattle.mmcs_engine.specs.Inner.Stored.{stored_batch, stored_matrix}
use Rattle.p3_merkle_core.specs.Nodes.{shape, Matrix}
use Rattle.p3_merkle_core.specs.Views.{matrix_of}

module _ {X : Type 0} (row : X → List ℕ) (width : ℕ) where
  -- all the values
  pub length_of_rows : (xs : List X) → All (λ x. length (row x) ≡ width) xs → length (flat_map row xs)
      ≡ length xs * width
  length_of_rows [] each = sym (zero-mul width)
  length_of_rows (x ∷ xs) each =
      length-append (row x) (flat_map row xs)
      ∙ (λ i. All-head (λ y. length (row y) ≡ width) x xs each i + length_of_rows xs
      (All-tail (λ y. length (row y) ≡ width) x xs each) i)
      ∙ (let one = add-mul 1 (length xs) width in let unit = one-mul width in omega (arith, one, unit))

  -- the values from r * width on, width of them
  row_at : (xs : List X) (r : ℕ) → All (λ x. length (row x) ≡ width) xs →
      take width (drop (r * width) (flat_map row xs)) ≡ get_or (map row xs) r []
  row_at [] r each = ap (take width) (drop-nil (r * width)) ∙ take-nil width
  row_at (x ∷ xs) zero each =
      let fits = All-head (λ y. length (row y) ≡ width) x xs each in
      ap (λ n. take width (drop n (row x ++ flat_map row xs))) (zero-mul width)
      ∙ ap (λ n. take n (row x ++ flat_map row xs)) (sym fits)
      ∙ take-append_seam (row x) (flat_map row xs)
  row_at (x ∷ xs) (suc r) each =
      let fits = All-head (λ y. length (row y) ≡ width) x xs each in
      let past : suc r * width ≡ length (row x) + r * width = let more = add-mul 1 r width in
      let unit = one-mul width in omega (arith, more, unit, fits) in
      ap (λ n. take width (drop n (row x ++ flat_map row xs))) past
      ∙ ap (take width) (drop-append-add (row x) (flat_map row xs) (r * width))
      ∙ row_at xs r (All-tail (λ y. length (row y) ≡ width) x xs each)

  -- the same, as a range
  pub row_range : (xs : List X) (values : List ℕ) (r : ℕ) → All (λ x. length (row x) ≡ width) xs → values
      ≡ flat_map row xs →
      slice_range values (r * width) ((r + 1) * width) ≡ slice_index_or (map row xs) r []
  row_range xs values r each values_are =
      let wide : (r + 1) * width - r * width ≡ width = let more = add-mul r 1 width in let unit = one-mul width in
      omega (arith, more, unit) in
      ap (λ n. take n (drop (r * width) values)) wide ∙ ap (λ vs. take width (drop (r * width) vs)) values_are
      ∙ row_at xs r each

module _ {W : Type 0} (value : W → ℕ) where
  -- a stored matrix has these rows
  abbrev pub Shows : RowMajorMatrix W → List (List ℕ) → Type 0
  Shows m rows = stored_matrix (map value) m ≡ matrix_of_rows rows

  -- stored matrices, each with its rows
  pub matrices_shown : (stored : List (RowMajorMatrix W)) (matrices : List (List (List ℕ))) →
      AllZip Shows stored matrices → map (stored_matrix (map value)) stored ≡ map matrix_of_rows matrices
  matrices_shown [] [] each = refl
  matrices_shown [] (rows ∷ matrices) each = absurd each
  matrices_shown (m ∷ stored) [] each = absurd each
  matrices_shown (m ∷ stored) (rows ∷ matrices) each = λ i. each.0 i ∷ matrices_shown stored matrices each.1 i

  -- the values of a block, stored under its width
  pub block_shown : (limit : ℕ) (matrix : RowMajorMatrix W) (lines : List (List ℕ)) (values : List W) (width : ℕ) →
      0 < width → values_of matrix ≡ values → row_width matrix ≡ width →
      length values ≡ row_count matrix * width → IsBlock limit lines (map value values) width →
      Shows matrix (map numbers_of lines)
  block_shown limit matrix lines values width some values_are width_is full block =
      let numbers_are : map value (values_of matrix) ≡ flat_map numbers_of lines = ap (map value) values_are
      ∙ block.values_are in
      let lines_fill : length lines * width ≡ row_count matrix * width =
      sym (length_of_rows numbers_of width lines block.widths) ∙ ap length (sym block.values_are)
      ∙ length-map values value ∙ full in
      let height_is : row_count matrix ≡ length (map numbers_of lines) = sym (mul-div_cancel (row_count matrix) some)
      ∙ ap (λ v. v / width) (sym lines_fill) ∙ mul-div_cancel (length lines) some
      ∙ sym (length-map lines numbers_of) in
      let first_is : width ≡ length (slice_index_or (map numbers_of lines) 0 []) =
      sym (All-get_or (λ l. length (numbers_of l) ≡ width) lines 0 [] (block.some_above_0 some) block.widths)
      ∙ ap length (sym (get_or-map numbers_of lines 0 [] [] (block.some_above_0 some))) in
      let row_is : (r : ℕ) → message (row_width matrix) (map value (values_of matrix)) r
      ≡ slice_index_or (map numbers_of lines) r [] =
      λ r. ap (λ w. message w (map value (values_of matrix)) r) width_is
      ∙ row_range numbers_of width lines (map value (values_of matrix)) r block.widths numbers_are in
      λ i. record { height = height_is i; width = (width_is ∙ first_is) i; row = λ r. row_is r i }

  -- an input's matrices, as one list
  pub matrices_found : (limit : ℕ) (input : List ℕ) (stored : List (RowMajorMatrix W)) →
      (matrices : List (List (List ℕ))) × StandsFor limit input matrices × AllZip Shows stored matrices →
      (matrices : List (List (List ℕ))) × StandsFor limit input matrices ×
      (map (stored_matrix (map value)) stored ≡ map matrix_of_rows matrices)
  matrices_found limit input stored found = (found.0, found.1, matrices_shown stored found.0 found.2)

-- past the last row there are no values
row_past : (m : RowMajorMatrix ℕ) (r : ℕ) → row_count m ≤ r → message (row_width m) (values_of m) r ≡ []
row_past m r past =
    let w = row_width m in
    let far = mul-le-mul_right w past in
    let full : length (values_of m) ≡ row_count m * w = m.full in
    ap (take ((r + 1) * w - r * w)) (drop_all (r * w) (values_of m) (omega (arith, full, far)))
    ∙ take-nil ((r + 1) * w - r * w)

-- so a row that is cut at the height is the stored one
row_whole : (m : RowMajorMatrix ℕ) (r : ℕ) → cond (nat_lt r (row_count m)) (message (row_width m) (values_of m) r) []
    ≡ message (row_width m) (values_of m) r
row_whole m r =
    elim (cases_lt r (row_count m)) [
      | inl lt ↦ let there = lt-ltb r (row_count m) lt in rw there refl
      | inr ge ↦ let none = le-ltb r (row_count m) ge in rw none (sym (row_past m r ge))
    ]

-- a matrix of a batch
abbrev batched : RowMajorMatrix ℕ → Matrix ℕ
batched = matrix_of row_count row_width (λ m r. message (row_width m) (values_of m) r)

-- is the stored one, its numbers read as they are
batched_is : (m : RowMajorMatrix ℕ) → batched m ≡ stored_matrix (map (λ n. n)) m
batched_is m =
    λ i. record {
      height = row_count m;
      width = row_width m;
      row = λ r. (row_whole m r ∙ ap (λ vs. message (row_width m) vs r) (sym (map-id (values_of m)))) i;
    }

-- and so are several
pub stored_plain : (stored : List (RowMajorMatrix ℕ)) → map batched stored ≡ map (stored_matrix (map (λ n. n))) stored
stored_plain [] = refl
stored_plain (m ∷ stored) = λ i. batched_is m i ∷ stored_plain stored i

-- digests of numbers are read as they are
pub digests_plain : (digests : List (List ℕ)) → map (map (λ n. n)) digests ≡ digests
digests_plain [] = refl
digests_plain (digest ∷ digests) = λ i. map-id digest i ∷ digests_plain digests i

-- the dimensions of stored matrices
pub stored_dimensions : {W : Type 0} (stored : List (RowMajorMatrix W)) (arity : ℕ) →
    dimensions_in row_count row_width stored ≡ (shape (stored_batch arity stored)).dimensions
stored_dimensions [] arity = refl
stored_dimensions (m ∷ stored) arity = ap (λ ds. record { width = row_width m; height = row_count m } ∷ ds)
    (stored_dimensions stored arity)
