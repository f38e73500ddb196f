-- A check of an honest opening reaches the ancestors of its index.
use Rattle.std.proofs.Common.{◌≡◌, ℕ, zero, suc, ◌<◌, ◌≤◌, true, eqb, nat_lt, List, [], ◌∷◌, map, refl, ap, sym, ◌∙◌}
use Rattle.std.proofs.Common.{arith, inl, inr, length, filter, flat_map, zip, All}
use Rattle.std.proofs.lemmas.Grind.{common_steps}
use Rattle.std.proofs.lemmas.Bool.{cond-true, cases_Bool, lt-ltb, eqb-true}
use Rattle.std.specs.List.{list_all}
use Rattle.p3_merkle_core.specs.Geometry.{Shape, IsLawful, exponent, layer_exponent, levels, ancestor, halved_index}
use Rattle.p3_merkle_core.specs.Geometry.{heights, expected_height, raw_len, has_rows, IsArity}
use Rattle.p3_merkle_core.specs.Nodes.{Functions, Batch, Matrix, shape, at_layer, joined_rows, compress_padded}
use Rattle.p3_merkle_core.specs.Nodes.{row_digest, with_rows, node, dimensions_of}
use Rattle.p3_merkle_core.specs.Openings.{honest, honest_rows, Opening, siblings_by, children_by}
use Rattle.p3_merkle_core.specs.Checks.{siblings_below, layer_words, group_at, path_digest}
use Rattle.p3_support.specs.Batches.{greatest, heights_of}
use Rattle.p3_merkle_core.proofs.Shapes.LadderFacts.{row_is_anc_at, row_below}
use Rattle.p3_merkle_core.proofs.Shapes.RawFacts.{anc_below}
use Rattle.p3_merkle_core.proofs.Checks.PathFacts.{path_length, path_group}

-- an index below M of a lawful batch, checked up to layer t
pub record IsHonest {T : Type 0} (b : Batch T) (t i : ℕ) : Type 0 where
  pub well_shaped : IsArity b.arity
  pub lawful : IsLawful (heights (shape b))
  pub below : i < greatest (heights (shape b))
  pub in_tree : t ≤ levels (shape b)

-- ---- rows

abbrev matrix_heights : {T : Type 0} → List (Matrix T) → List ℕ
matrix_heights ms = heights_of (dimensions_of ms)

rows_join : {T : Type 0} (x top j : ℕ) (row : ℕ → ℕ) → ((h : ℕ) → h ≤ top → exponent h ≡ x → row h ≡ j) →
    (ms : List (Matrix T)) → greatest (matrix_heights ms) ≤ top →
    flat_map (λ (h, r). r)
    (filter (λ (h, r). eqb (exponent h) x) (zip (matrix_heights ms) (map (λ m. m.row (row m.height)) ms)))
    ≡ joined_rows (filter (λ m. eqb (exponent m.height) x) ms) j
rows_join x top j row same [] le = refl
rows_join x top j row same (m ∷ ms) le = grind (arith, common_steps, rows_join x top j row same ms (omega arith))

all_tall : {T : Type 0} (x top j : ℕ) → ((h : ℕ) → h ≤ top → h ≡ expected_height top h → exponent h ≡ x → j < h) →
    (ms : List (Matrix T)) → greatest (matrix_heights ms) ≤ top →
    All (λ h. h ≡ expected_height top h) (matrix_heights ms) →
    list_all (λ m. nat_lt j m.height) (filter (λ m. eqb (exponent m.height) x) ms) ≡ true
all_tall x top j tall [] le on = refl
all_tall x top j tall (m ∷ ms) le on =
    let rest = all_tall x top j tall ms (omega arith) (λ k d h. on (suc k) d (omega arith)) in
    elim (cases_Bool (eqb (exponent m.height) x)) [
      | inl t ↦
          let l = lt-ltb j m.height
          (tall m.height (omega arith) (on 0 0 (omega arith)) (eqb-true (exponent m.height) x t)) in
          rw (t, l) rest
      | inr f ↦ rw f rest
    ]

-- ---- one level

pub rows_are : {T : Type 0} (b : Batch T) (t i l : ℕ) → IsHonest b t i → layer_words (shape b) (honest_rows b i) l
    ≡ joined_rows (at_layer b l) (ancestor (shape b) l i)
rows_are b t i l w =
    let s = shape b in
    rows_join (layer_exponent s l) (greatest (heights s)) (ancestor s l i)
    (λ h. halved_index (greatest (heights s)) h i)
    (λ h le e. row_is_anc_at s w.well_shaped h i l le w.below (sym e)) b.matrices (omega arith)

-- each matrix of a layer has the row of a leaf's ancestor, so they are hashed
pub row_digest_is : {T W : Type 0} (f : Functions T W) (b : Batch T) (t i l : ℕ) → IsHonest b t i →
    row_digest f (at_layer b l) (ancestor (shape b) l i) ≡ f.hash (joined_rows (at_layer b l) (ancestor (shape b) l i))
row_digest_is f b t i l w =
    let s = shape b in
    let x = layer_exponent s l in
    let j = ancestor s l i in
    let tall = all_tall x (greatest (heights s)) j
    (λ h le on is. let below : halved_index (greatest (heights s)) h i < h = row_below s h i on w.below in
    rw (row_is_anc_at s w.well_shaped h i l le w.below (sym is)) at below) b.matrices (omega arith)
    w.lawful.on_ladder in
    rw tall refl

pub node_leaf : {T W : Type 0} (f : Functions T W) (b : Batch T) (j : ℕ) → j < raw_len (shape b) 0 → node f b 0 j
    ≡ f.hash (joined_rows (at_layer b 0) j)
unfolding node
node_leaf f b j h = cond-true (nat_lt j (raw_len (shape b) 0)) (f.hash (joined_rows (at_layer b 0) j)) f.default_digest
    (lt-ltb j (raw_len (shape b) 0) h)

pub node_next : {T W : Type 0} (f : Functions T W) (b : Batch T) (l j : ℕ) → j < raw_len (shape b) (suc l) →
    node f b (suc l) j ≡ with_rows f b.arity (has_rows (shape b) (suc l))
    (compress_padded f b.arity (children_by (node f b) (shape b) l j))
    (row_digest f (at_layer b (suc l)) j)
unfolding node
node_next f b l j h = grind (arith, common_steps)

-- ---- the whole check

pub reached_next : {T W : Type 0} (f : Functions T W) (s : Shape) (o : Opening T W) (l : ℕ) →
    path_digest f s o (suc l)
    ≡ with_rows f s.arity (has_rows s (suc l)) (compress_padded f s.arity (group_at f s o l (path_digest f s o l)))
    (f.hash (layer_words s o.rows (suc l)))
unfolding path_digest
reached_next f s o l = refl

pub reached_leaf : {T W : Type 0} (f : Functions T W) (s : Shape) (o : Opening T W) → path_digest f s o 0
    ≡ f.hash (layer_words s o.rows 0)
unfolding path_digest
reached_leaf f s o = refl

pub honest_reaches : {T W : Type 0} (f : Functions T W) (b : Batch T) (t i : ℕ) → IsHonest b t i → (l : ℕ) → l ≤ t →
    path_digest f (shape b) (honest f b t i) l ≡ node f b l (ancestor (shape b) l i)
honest_reaches f b t i w zero h =
    let s = shape b in
    let rows = rows_are b t i 0 w in
    reached_leaf f s (honest f b t i) ∙ ap f.hash rows
    ∙ sym (node_leaf f b (ancestor s 0 i) (anc_below s w.well_shaped i w.below 0 (omega arith)))
honest_reaches f b t i w (suc l) h =
    let s = shape b in
    let ih = honest_reaches f b t i w l (omega arith) in
    let j = ancestor s (suc l) i in
    let fits = anc_below s w.well_shaped i w.below (suc l) (omega (arith, w.in_tree)) in
    reached_next f s (honest f b t i) l
    ∙ rw (
      ih,
      path_group f s w.well_shaped (node f b) t (honest f b t i) refl l (omega arith),
      rows_are b t i (suc l) w,
      row_digest_is f b t i (suc l) w,
    ) refl
    ∙ sym (node_next f b l j fits)

pub honest_count : {T W : Type 0} (f : Functions T W) (b : Batch T) (t i : ℕ) → IsHonest b t i →
    length (siblings_by (node f b) (shape b) t i) ≡ siblings_below (shape b) t
honest_count f b t i w = path_length (shape b) w.well_shaped (node f b) i t
