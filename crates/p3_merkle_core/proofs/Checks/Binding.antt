-- Two checks whose shared inputs agree have the same rows of each matrix up to the cap layer, wherever their paths
-- reach one node of the matrix's layer.
use Rattle.std.proofs.Common.{◌≡◌, ℕ, zero, suc, ◌+◌, ◌-◌, ◌<◌, ◌≤◌, false, eqb, List, [], ◌∷◌, map, refl, sym}
use Rattle.std.proofs.Common.{◌∙◌, arith, inl, inr, length, filter, flat_map, zip}
use Rattle.std.proofs.Common.{eq-eqb}
use Rattle.std.specs.List.{list_any}
use Rattle.std.proofs.lemmas.Bool.{cases_Bool, cases_eq, or_parts, ne_eqb}
use Rattle.p3_merkle_core.specs.Geometry.{Shape, exponent, layer_exponent, ancestor, heights, has_rows}
use Rattle.p3_merkle_core.specs.Nodes.{Functions}
use Rattle.p3_merkle_core.specs.Openings.{Opening}
use Rattle.p3_merkle_core.specs.Checks.{IsAccepted}
use Rattle.p3_merkle_core.specs.Checks.{inputs_at, shared_inputs, meeting_level, layer_words, layer_rows, params}
use Rattle.p3_merkle_core.specs.declared.collision.Place.TheVariants.{Leaf, Rows}
use Rattle.p3_merkle_core.proofs.Shapes.LeastFacts.{least_bound}
use Rattle.p3_merkle_core.proofs.Shapes.StepFacts.{anc_start}
use Rattle.p3_merkle_core.proofs.Collisions.Extraction.{level_lengths}
use Rattle.p3_merkle_core.proofs.Checks.CheckFacts.{same_words, inputs_with_rows}
use Rattle.p3_merkle_core.proofs.Lists.ListFacts.{joined, pieces_same, same_ends}

-- of rows with their heights, those of exponent x
abbrev rows_with : {T : Type 0} → ℕ → List ℕ → List (List T) → List (ℕ × List T)
rows_with x hs rows = filter (λ (h, row). eqb (exponent h) x) (zip hs rows)

-- rows of the same lengths are equal if their concatenations are
rows_told : {T : Type 0} (x : ℕ) (hs : List ℕ) (us vs : List (List T)) → map length us ≡ map length vs →
    flat_map (λ (h, row). row) (rows_with x hs us) ≡ flat_map (λ (h, row). row) (rows_with x hs vs) →
    rows_with x hs us ≡ rows_with x hs vs
rows_told x [] us vs long words = refl
rows_told x (h ∷ hs) [] [] long words = refl
rows_told x (h ∷ hs) [] (v ∷ vs) long words = absurd cc
rows_told x (h ∷ hs) (u ∷ us) [] long words = absurd cc
rows_told x (h ∷ hs) (u ∷ us) (v ∷ vs) long words =
    let first_long : length u ≡ length v = cc in
    let others_long : map length us ≡ map length vs = cc in
    elim (cases_Bool (eqb (exponent h) x)) [
      | inl of_x ↦
          let ends = same_ends u v (flat_map (λ (h, row). row) (rows_with x hs us))
          (flat_map (λ (h, row). row) (rows_with x hs vs)) first_long (rw of_x at words) in
          let others = rows_told x hs us vs others_long ends.1 in
          let first = ends.0 in
          rw (of_x, first, others) refl
      | inr of_another ↦ rw of_another (rows_told x hs us vs others_long (rw of_another at words))
    ]

-- where no matrix has exponent x, there are no such rows
no_layer_rows : {T : Type 0} (x : ℕ) (hs : List ℕ) (us : List (List T)) → list_any (λ h. eqb (exponent h) x) hs
    ≡ false → rows_with x hs us ≡ []
no_layer_rows x [] us none = refl
no_layer_rows x (h ∷ hs) [] none = refl
no_layer_rows x (h ∷ hs) (u ∷ us) none =
    let parts = or_parts (eqb (exponent h) x) (list_any (λ h. eqb (exponent h) x) hs) none in
    let first = parts.0 in
    rw first (no_layer_rows x hs us parts.1)

-- ---- one level

-- where the inputs of level l agree, so do the rows of the layer above
level_rows : {T W : Type 0} (f : Functions T W) (s : Shape) (o u : Opening T W) (l : ℕ) → map length o.rows
    ≡ map length u.rows → inputs_at f s o l ≡ inputs_at f s u l →
    layer_rows s o.rows (suc l) ≡ layer_rows s u.rows (suc l)
level_rows {T} {W} f s o u l long agree =
    elim (cases_Bool (has_rows s (suc l))) [
      | inl some ↦
          let parts = sym (inputs_with_rows f s o l some) ∙ agree ∙ inputs_with_rows f s u l some in
          let words = same_words {W = W} (Rows l) (Rows l) (layer_words s o.rows (suc l)) (layer_words s u.rows (suc l))
          cc in
          rows_told (layer_exponent s (suc l)) (heights s) o.rows u.rows long words
      | inr none ↦ no_layer_rows (layer_exponent s (suc l)) (heights s) o.rows none
          ∙ sym (no_layer_rows (layer_exponent s (suc l)) (heights s) u.rows none)
    ]

-- the inputs of level l agree, where both checks share it
pub level_shared : {T W : Type 0} (f : Functions T W) (s : Shape) (cap_layer : ℕ) (o u : Opening T W) →
    shared_inputs (params f s cap_layer) o.index u.index o ≡ shared_inputs (params f s cap_layer) o.index u.index u →
    (l : ℕ) → l < cap_layer → ancestor s (suc l) o.index ≡ ancestor s (suc l) u.index →
    inputs_at f s o l ≡ inputs_at f s u l
level_shared f s cap_layer o u agree l below meet =
    elim (cases_eq o.index u.index) [
      | inl one_index ↦
          let test = eq-eqb o.index u.index one_index in
          let from_leaf = rw test at agree in
          let all : joined (inputs_at f s o) cap_layer ≡ joined (inputs_at f s u) cap_layer = cc in
          pieces_same (inputs_at f s o) (inputs_at f s u) cap_layer (level_lengths f s o u) all l below
      | inr two ↦
          let test = ne_eqb o.index u.index two in
          let from_meeting = rw test at agree in
          let m = meeting_level s cap_layer o.index u.index in
          let low = least_bound (λ l. eqb (ancestor s (suc l) o.index) (ancestor s (suc l) u.index)) cap_layer l
          (eq-eqb (ancestor s (suc l) o.index) (ancestor s (suc l) u.index) meet) in
          let place : m + (l - m) ≡ l = omega arith in
          let here = pieces_same (λ k. inputs_at f s o (m + k)) (λ k. inputs_at f s u (m + k)) (cap_layer - m)
          (λ k. level_lengths f s o u (m + k)) from_meeting (l - m) (omega arith) in
          rw place at here
    ]

-- where all shared inputs agree, so do the rows of each matrix up to the cap layer, wherever both indices have one row
-- of it
pub rows_bound : {T W : Type 0} (f : Functions T W) (s : Shape) (cap_layer : ℕ) (cap : List (List W))
    (o u : Opening T W) → IsAccepted (params f s cap_layer) cap o → IsAccepted (params f s cap_layer) cap u →
    shared_inputs (params f s cap_layer) o.index u.index o ≡ shared_inputs (params f s cap_layer) o.index u.index u →
    (l : ℕ) → l ≤ cap_layer → ancestor s l o.index ≡ ancestor s l u.index →
    layer_rows s o.rows l ≡ layer_rows s u.rows l
rows_bound {T} {W} f s cap_layer cap o u o_accepted u_accepted agree zero below meet =
    let one_index : o.index ≡ u.index = sym (anc_start s o.index) ∙ meet ∙ anc_start s u.index in
    let test = eq-eqb o.index u.index one_index in
    let from_leaf = rw test at agree in
    let words = same_words {W = W} Leaf Leaf (layer_words s o.rows 0) (layer_words s u.rows 0) cc in
    rows_told (layer_exponent s 0) (heights s) o.rows u.rows (o_accepted.rows_fit ∙ sym u_accepted.rows_fit) words
rows_bound f s cap_layer cap o u o_accepted u_accepted agree (suc l) below meet =
    level_rows f s o u l (o_accepted.rows_fit ∙ sym u_accepted.rows_fit)
    (level_shared f s cap_layer o u agree l (omega arith) meet)
