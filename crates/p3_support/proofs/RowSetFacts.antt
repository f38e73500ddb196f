-- Rows and lists of salts in pairs, as the code reads them.
use Rattle.std.proofs.Common.{◌≡◌, ◌∙◌, ◌<◌, ◌++◌, ℕ, List, [], ap, arith, get_or, length, map, zip}
use Rattle.std.proofs.lemmas.List.{get_or-map, length-map}
use Rattle.std.proofs.lemmas.Slice.Zip.{get_or-zip, length-zip}
use Rattle.std.specs.declared.vec.Vec.{Vec}
use Rattle.p3_support.specs.Rows.{rows_in_parts}
use Rattle.p3_support.specs.Shown.{row_lists, row_sets}

-- what is in a place of a map of two lists in pairs is in that place of both
in_both : {A B C : Type 0} (f : A × B → C) (xs : List A) (ys : List B) (k : ℕ) → k < length (map f (zip xs ys)) →
    (k < length xs) × (k < length ys)
in_both f xs ys k h = (
  omega (arith, h, length-map (zip xs ys) f, length-zip xs ys),
  omega (arith, h, length-map (zip xs ys) f, length-zip xs ys),
)

pair_read : {A B C : Type 0} (f : A × B → C) (xs : List A) (ys : List B) (k : ℕ) (a : A) (b : B) (c : C) →
    k < length (map f (zip xs ys)) → get_or (map f (zip xs ys)) k c ≡ f (get_or xs k a, get_or ys k b)
pair_read f xs ys k a b c h =
    let both = in_both f xs ys k h in
    get_or-map f (zip xs ys) k (a, b) c (omega (arith, both, length-zip xs ys))
    ∙ ap f (get_or-zip xs ys k (a, b) both.0 both.1)

module _ {T A B C D : Type 0} (sets : List (Vec (Vec T A) B)) (salts : List (Vec (Vec T C) D)) (k : ℕ)
    (h : k < length (map (λ (rows, salt). rows_in_parts (zip rows salt)) (zip (row_sets sets) (row_sets salts)))) where
  -- a query that has a row set and a salt set
  pub sets_in_pairs : (k < length sets) × (k < length salts)
  sets_in_pairs =
      let both = in_both (λ (rows, salt). rows_in_parts (zip rows salt)) (row_sets sets) (row_sets salts) k h in (
        omega (arith, both.0, length-map sets (λ rows. row_lists rows.items)),
        omega (arith, both.1, length-map salts (λ rows. row_lists rows.items)),
      )

  -- so both are read
  pub set_and_salts :
      get_or (map (λ (rows, salt). rows_in_parts (zip rows salt)) (zip (row_sets sets) (row_sets salts))) k []
      ≡ rows_in_parts (zip (get_or (row_sets sets) k []) (get_or (row_sets salts) k []))
  set_and_salts =
      pair_read (λ (rows, salt). rows_in_parts (zip rows salt)) (row_sets sets) (row_sets salts) k [] [] [] h

module _ {T : Type 0} (rows salts : List (List T)) (m : ℕ) (h : m < length (rows_in_parts (zip rows salts))) where
  -- a matrix that has a row and a list of salts
  pub rows_in_pairs : (m < length rows) × (m < length salts)
  rows_in_pairs = in_both (λ (row, salt). row ++ salt) rows salts m h

  -- so both are read
  pub row_and_salts : get_or (rows_in_parts (zip rows salts)) m [] ≡ get_or rows m [] ++ get_or salts m []
  row_and_salts = pair_read (λ (row, salt). row ++ salt) rows salts m [] [] [] h
