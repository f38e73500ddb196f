-- The rows that queries opened of the matrices of one exponent.
use Rattle.std.proofs.Common.{◌≡◌, ◌∙◌, ℕ, ◌+◌, ◌<◌, true, false, eqb, List, [], ◌∷◌, ◌++◌, All, append-nil, ap, sym}
use Rattle.std.proofs.Common.{arith, refl, length, map, get_or, take, zip}
use Rattle.std.proofs.lemmas.Bool.{eq-eqb, ne_eqb}
use Rattle.std.proofs.lemmas.Grind.{flat_map-append}
use Rattle.std.proofs.lemmas.List.{flat_map_more, get_or-map, length-map, take_more}
use Rattle.std.proofs.lemmas.List.Elements.{filter-append}
use Rattle.std.proofs.lemmas.List.FromFn.{fill_by_all}
use Rattle.std.proofs.lemmas.Slice.Zip.{get_or-zip, length-zip}
use Rattle.std.specs.List.{flat_map, range_with_len}
use Rattle.p3_support.specs.Batches.{widths_of}
use Rattle.p3_support.specs.declared.matrix.Dimensions.{Dimensions}
use Rattle.p3_merkle_core.specs.Checks.{words_of_exponent}
use Rattle.p3_merkle_core.specs.Geometry.{exponent}
use Rattle.p3_merkle_verifier.specs.Inner.OpenedRows.{HaveRows}

-- row sets whose rows have the widths of all matrices have a row of this width in this place
pub have_rows : {T : Type 0} (dimensions : List Dimensions) (sets : List (List (List T))) (place width : ℕ) →
    All (λ rows. map length rows ≡ widths_of dimensions) sets → place < length dimensions →
    width ≡ get_or (widths_of dimensions) place 0 → HaveRows sets place width
have_rows dimensions sets place width fit inside is k d h =
    let rows = get_or sets k d in
    let e : map length rows ≡ widths_of dimensions = fit k d h in
    let long : length rows ≡ length dimensions = sym (length-map rows length) ∙ ap length e
    ∙ length-map dimensions (λ (m : Dimensions). m.width) in
    let there : place < length rows = omega arith in
    (there, sym (get_or-map length rows place [] 0 there) ∙ ap (λ ws. get_or ws place 0) e ∙ sym is)

-- so each has as many rows as there are matrices
pub row_set_long : {T : Type 0} (dimensions : List Dimensions) (sets : List (List (List T))) (k : ℕ) →
    All (λ rows. map length rows ≡ widths_of dimensions) sets → k < length sets →
    length (get_or sets k []) ≡ length dimensions
row_set_long dimensions sets k fit h =
    sym (length-map (get_or sets k []) length) ∙ ap length (fit k [] h)
    ∙ length-map dimensions (λ (m : Dimensions). m.width)

-- the words of one more row, of this exponent or of another
words_with : {T : Type 0} (x h : ℕ) (row : List T) (pairs : List (ℕ × List T)) → exponent h ≡ x →
    words_of_exponent x (pairs ++ (h, row) ∷ []) ≡ words_of_exponent x pairs ++ row
words_with x h row pairs e =
    let test : eqb (exponent h) x ≡ true = eq-eqb (exponent h) x e in
    rw (filter-append, test, flat_map-append, append-nil) refl

words_without : {T : Type 0} (x h : ℕ) (row : List T) (pairs : List (ℕ × List T)) → (exponent h ≡ x → ⊥) →
    words_of_exponent x (pairs ++ (h, row) ∷ []) ≡ words_of_exponent x pairs
words_without x h row pairs ne =
    let test : eqb (exponent h) x ≡ false = ne_eqb (exponent h) x ne in
    rw (filter-append, test, append-nil) refl

-- one more matrix
module _ {T : Type 0} (x : ℕ) (heights : List ℕ) (rows : List (List T)) (i : ℕ) where
  next_pair : i < length heights → i < length rows → take (i + 1) (zip heights rows)
      ≡ take i (zip heights rows) ++ (get_or heights i 0, get_or rows i []) ∷ []
  next_pair in_heights in_rows =
      let inside : i < length (zip heights rows) = omega (arith, length-zip heights rows) in
      take_more (zip heights rows) i (0, []) inside
      ∙ ap (λ pair. take i (zip heights rows) ++ pair ∷ []) (get_or-zip heights rows i (0, []) in_heights in_rows)

  -- it has this exponent
  pub opened_more : {M : Type 0} (row_of : M → List T) (old new : List M) (m : M) → i < length heights →
      i < length rows → exponent (get_or heights i 0) ≡ x → new ≡ old ++ m ∷ [] → row_of m ≡ get_or rows i [] →
      flat_map row_of old ≡ words_of_exponent x (take i (zip heights rows)) →
      flat_map row_of new ≡ words_of_exponent x (take (i + 1) (zip heights rows))
  opened_more row_of old new m in_heights in_rows e pushed is so_far =
      let pairs = take i (zip heights rows) in
      ap (flat_map row_of) pushed ∙ sym (flat_map_more row_of [] old m) ∙ ap (λ ys. ys ++ row_of m) so_far
      ∙ ap (λ row. words_of_exponent x pairs ++ row) is
      ∙ sym (words_with x (get_or heights i 0) (get_or rows i []) pairs e)
      ∙ ap (words_of_exponent x) (sym (next_pair in_heights in_rows))

  -- it has another
  pub opened_same : {M : Type 0} (row_of : M → List T) (ms : List M) → i < length heights → i < length rows →
      (exponent (get_or heights i 0) ≡ x → ⊥) → flat_map row_of ms ≡ words_of_exponent x (take i (zip heights rows)) →
      flat_map row_of ms ≡ words_of_exponent x (take (i + 1) (zip heights rows))
  opened_same row_of ms in_heights in_rows ne so_far =
      so_far ∙ sym (words_without x (get_or heights i 0) (get_or rows i []) (take i (zip heights rows)) ne)
      ∙ ap (words_of_exponent x) (sym (next_pair in_heights in_rows))

-- the values of leads, by their places
pub by_places : {W : Type 0} (f g : ℕ → List W) (leads : List ℕ) →
    ((j : ℕ) → j < length leads → f j ≡ g (get_or leads j 0)) → map f (range_with_len 0 (length leads)) ≡ map g leads
by_places f g leads e =
    sym (fill_by_all f (map g leads) (length leads) [] (length-map leads g)
    (λ j h. get_or-map g leads j 0 [] h ∙ sym (e j h)))
