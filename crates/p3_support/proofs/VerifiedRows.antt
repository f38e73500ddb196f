-- Words of rows that fit dimensions.
use Rattle.std.proofs.Common.{◌≡◌, ◌∙◌, ℕ, zero, suc, ◌<◌, List, [], ◌∷◌, Vec, ap, arith, get_or, length, map, sym}
use Rattle.std.proofs.Common.{subst}
use Rattle.std.proofs.lemmas.List.{get_or-map, length-map}
use Rattle.std.proofs.lemmas.Slice.Zip.{AllZip-long}
use Rattle.std.specs.Prelude.{slice_index}
use Rattle.std.specs.List.{AllZip}
use Rattle.std.specs.Vec.{vec_len}
use Rattle.p3_support.specs.Batches.{widths_of}
use Rattle.p3_support.specs.Shown.{row_lists, row_sets}
use Rattle.p3_support.specs.declared.matrix.Dimensions.{Dimensions}

module _ {T A : Type 0} (ds : List Dimensions) (rows : List (Vec T A))
    (fit : map length (row_lists rows) ≡ widths_of ds)
  where
    -- there are as many rows as dimensions
    pub as_many : length rows ≡ length ds
    as_many = simp length-map at (ap length fit)

    -- a row that is read out of them has each column that its dimensions say
    pub has_column : (m column : ℕ) (row : Vec T A) → m < length ds → column < slice_index (widths_of ds) m →
        row ≡ get_or rows m row → column < vec_len row
    has_column m column row inside narrow is =
        let same = as_many in
        let among : m < length (row_lists rows) = omega (arith, same, length-map rows (λ row. row.items)) in
        let wide : get_or (map length (row_lists rows)) m 0 ≡ length row.items =
        get_or-map length (row_lists rows) m row.items 0 among
        ∙ ap length (get_or-map (λ row. row.items) rows m row row.items (omega (arith, same)))
        ∙ ap (λ (r : Vec T A). length r.items) (sym is) in
        omega (arith, wide, ap (λ widths. get_or widths m 0) fit)

-- of lists that are related place by place, the read values are
related_at : {A B : Type 0} (holds : A → B → Type 0) (xs : List A) (ys : List B) (k : ℕ) (a : A) (b : B) →
    AllZip holds xs ys → k < length xs → holds (get_or xs k a) (get_or ys k b)
related_at holds [] ys k a b w inside = absurd (omega arith)
related_at holds (x ∷ xs) [] k a b w inside = absurd w
related_at holds (x ∷ xs) (y ∷ ys) zero a b w inside = w.0
related_at holds (x ∷ xs) (y ∷ ys) (suc k) a b w inside = related_at holds xs ys k a b w.1 (omega arith)

module _ {T A B : Type 0} (shown : ℕ → List (List T) → Type 0) (indices : List ℕ) (sets : List (Vec (Vec T A) B))
    (each : AllZip shown indices (row_sets sets)) where
  -- each query has a row set
  pub has_set : (q : ℕ) → q < length indices → q < length sets
  has_set q inside =
      omega (arith, AllZip-long shown indices (row_sets sets) each, length-map sets (λ set. row_lists set.items))

  -- and what is read out of them is shown of its index
  pub set_shown : (q : ℕ) (set : Vec (Vec T A) B) → q < length indices → set ≡ get_or sets q set →
      shown (slice_index indices q) (row_lists set.items)
  set_shown q set inside is =
      let here : shown (get_or indices q 0) (get_or (row_sets sets) q (row_lists set.items)) =
      related_at shown indices (row_sets sets) q 0 (row_lists set.items) each inside in
      let same : get_or (row_sets sets) q (row_lists set.items) ≡ row_lists set.items =
      get_or-map (λ set. row_lists set.items) sets q set (row_lists set.items) (has_set q inside)
      ∙ ap (λ (s : Vec (Vec T A) B). row_lists s.items) (sym is) in
      subst (λ rows. shown (slice_index indices q) rows) same here
