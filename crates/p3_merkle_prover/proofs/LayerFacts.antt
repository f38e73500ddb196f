-- The layers that are built are those of the definition.
use Rattle.std.proofs.Common.{◌≡◌, ℕ, zero, suc, ◌+◌, ◌-◌, ◌*◌, ◌/◌, ◌^◌, ◌<◌, ◌≤◌, Bool, true, false, cond, eqb}
use Rattle.std.proofs.Common.{nat_lt, ◌&&◌, List, [], ◌∷◌, ◌++◌, map, refl, ap, sym, ◌∙◌, subst, arith, inl, inr}
use Rattle.std.proofs.Common.{length, take, drop, filter, All, length-drop}
use Rattle.std.proofs.lemmas.Bool.{cases_Bool, cases_lt, cases_eq, cond-true, cond-false, le-ltb, lt-ltb, eq-eqb}
use Rattle.std.proofs.lemmas.Bool.{ne_eqb, or_parts, eqb-true, true≢false}
use Rattle.std.proofs.lemmas.List.FromFn.{fill_by_all, get_or-map-range_with_len, length-map-range_with_len}
use Rattle.std.proofs.lemmas.List.{length-take-le, get_or-take, get_or-drop}
use Rattle.std.proofs.Math.Nat.{mul-le-mul_left, mul-suc}
use Rattle.std.proofs.lemmas.Simd.{map-map}
use Rattle.std.specs.List.{range_with_len, list_any, list_all}
use Rattle.p3_support.specs.Lists.{rows_of_height}
use Rattle.p3_support.specs.Batches.{greatest}
use Rattle.p3_merkle_core.specs.Views.{batch_of, matrix_of}
use Rattle.p3_merkle_core.specs.Geometry.{heights, exponent, layer_exponent, step, raw_len, layer_len, expected_height}
use Rattle.p3_merkle_core.specs.Geometry.{has_rows, IsLawful, height_at}
use Rattle.p3_merkle_core.specs.Nodes.{Functions, Batch, layer}
use Rattle.p3_merkle_core.specs.Nodes.{shape, at_layer, joined_rows, row_digest, with_rows, compress_padded, node}
use Rattle.p3_merkle_core.specs.Inner.Levels.{IsLevel}
use Rattle.p3_merkle_core.specs.declared.layer_shape.LayerShape.{LayerShape}
use Rattle.p3_merkle_core.specs.Openings.{children_by}
use Rattle.p3_merkle_core.proofs.Checks.Completeness.{node_next}
use Rattle.p3_merkle_core.proofs.Shapes.StepFacts.{layer_start}
use Rattle.p3_merkle_hashing.specs.Inner.Slots.{leaf_over, rows_over}
use Rattle.p3_merkle_prover.specs.Inner.Levels.{node_above}

-- two functions that agree below n make the same list
pub same_made : {X : Type 0} (f g : ℕ → X) (n : ℕ) → ((k : ℕ) → k < n → f k ≡ g k) → map f (range_with_len 0 n)
    ≡ map g (range_with_len 0 n)
same_made f g n h = fill_by_all g (map f (range_with_len 0 n)) n (f 0) (length-map-range_with_len f 0 n)
    (λ k b. get_or-map-range_with_len f 0 n k k (f 0) b (omega arith) ∙ h k b)

-- a part of a list made by index
pub part_made : {X : Type 0} (f : ℕ → X) (n a m : ℕ) → a + m ≤ n → take m (drop a (map f (range_with_len 0 n)))
    ≡ map (λ i. f (a + i)) (range_with_len 0 m)
part_made f n a m h =
    let whole = map f (range_with_len 0 n) in
    let long : length whole ≡ n = length-map-range_with_len f 0 n in
    fill_by_all (λ i. f (a + i)) (take m (drop a whole)) m (f 0)
    (length-take-le m (drop a whole) (omega (arith, length-drop a whole, long)))
    (λ k b. get_or-take m (drop a whole) k (f 0) b ∙ get_or-drop a whole k (f 0)
    ∙ get_or-map-range_with_len f 0 n (a + k) (a + k) (f 0) (omega arith) (omega arith))

-- a test twice is the test
and_same : (b : Bool) → (b && b) ≡ b
and_same true = refl
and_same false = refl

-- and so is a test beside true
and_true : (b : Bool) → (b && true) ≡ b
and_true true = refl
and_true false = refl

module _ {T M : Type 0} (height width : M → ℕ) (row : M → ℕ → List T) (x h : ℕ) where
  -- below it, the rows of one height are those of one exponent
  rows_same : (j : ℕ) (ms : List M) → j < h → exponent h ≡ x → All (λ m. exponent (height m) ≡ x → height m ≡ h) ms →
      rows_of_height height row h j ms
      ≡ joined_rows (filter (λ m. eqb (exponent m.height) x) (map (matrix_of height width row) ms)) j
  rows_same j [] below e w = refl
  rows_same j (m ∷ ms) below e w =
      let rest = rows_same j ms below e (λ k d b. w (suc k) d (omega arith)) in
      elim (cases_eq (exponent (height m)) x) [
        | inl same ↦
            let hm = w 0 m (omega arith) same in
            let t = eq-eqb (height m) h hm in
            let u = eq-eqb (exponent (height m)) x same in
            let v = lt-ltb j (height m) (omega (arith, below, hm)) in
            rw (t, u, v) (ap (λ ws. row m j ++ ws) rest)
        | inr other ↦
            let t = ne_eqb (height m) h (λ s. other (ap exponent s ∙ e)) in
            let u = ne_eqb (exponent (height m)) x other in
            rw (t, u) rest
      ]

  -- no row is joined, where no matrix has the exponent
  none_same : (ms : List M) → list_any (λ y. eqb (exponent y) x) (map height ms) ≡ false →
      filter (λ m. eqb (exponent m.height) x) (map (matrix_of height width row) ms) ≡ []
  none_same [] e = refl
  none_same (m ∷ ms) e =
      let p = or_parts (eqb (exponent (height m)) x) (list_any (λ y. eqb (exponent y) x) (map height ms)) e in
      rw p.0 (none_same ms p.1)

  -- all of these matrices have the row, or none
  tall_same : (j : ℕ) (ms : List M) → All (λ m. exponent (height m) ≡ x → height m ≡ h) ms →
      list_any (λ y. eqb (exponent y) x) (map height ms) ≡ true →
      list_all (λ m. nat_lt j m.height) (filter (λ m. eqb (exponent m.height) x) (map (matrix_of height width row) ms))
      ≡ nat_lt j h
  tall_same j [] w e = absurd (true≢false (sym e))
  tall_same j (m ∷ ms) w e =
      let q : ℕ → Bool = λ y. eqb (exponent y) x in
      let rest = λ (t : list_any q (map height ms) ≡ true). tall_same j ms (λ k d b. w (suc k) d (omega arith)) t in
      elim (cases_eq (exponent (height m)) x) [
        | inl same ↦
            let u = eq-eqb (exponent (height m)) x same in
            let hm : height m ≡ h = w 0 m (omega arith) same in
            elim (cases_Bool (list_any q (map height ms))) [
              | inl t ↦ rw (u, rest t, hm) (and_same (nat_lt j h))
              | inr n ↦ rw (u, none_same ms n, hm) (and_true (nat_lt j h))
            ]
        | inr other ↦
            let u = ne_eqb (exponent (height m)) x other in
            rw u (rest (rw u at e))
      ]

  -- their height has the exponent
  exponent_is_there : (ms : List M) → All (λ m. exponent (height m) ≡ x → height m ≡ h) ms →
      list_any (λ y. eqb (exponent y) x) (map height ms) ≡ true → exponent h ≡ x
  exponent_is_there [] w e = absurd (true≢false (sym e))
  exponent_is_there (m ∷ ms) w e =
      elim (cases_eq (exponent (height m)) x) [
        | inl same ↦ ap exponent (sym (w 0 m (omega arith) same)) ∙ same
        | inr other ↦ let u = ne_eqb (exponent (height m)) x other in
            exponent_is_there ms (λ k d b. w (suc k) d (omega arith)) (rw u at e)
      ]

  -- so the digest of the rows of one height is that of the rows of one exponent
  digest_same : {W : Type 0} (f : Functions T W) (j : ℕ) (ms : List M) → exponent h ≡ x →
      All (λ m. exponent (height m) ≡ x → height m ≡ h) ms →
      cond (nat_lt j h) (f.hash (rows_of_height height row h j ms)) f.default_digest
      ≡ cond (nat_lt j h)
      (f.hash (joined_rows (filter (λ m. eqb (exponent m.height) x) (map (matrix_of height width row) ms)) j))
      f.default_digest
  digest_same f j ms e w =
      elim (cases_lt j h) [
        | inl lt ↦ ap (λ ws. cond (nat_lt j h) (f.hash ws) f.default_digest) (rows_same j ms lt e w)
        | inr ge ↦ let no = le-ltb j h ge in rw no refl
      ]

  -- so where a node has rows, the digest of those of one height is that of the matrices of the exponent
  with_rows_same : {W : Type 0} (f : Functions T W) (n j : ℕ) (c : List W) (ms : List M) →
      All (λ m. exponent (height m) ≡ x → height m ≡ h) ms →
      with_rows f n (list_any (λ y. eqb (exponent y) x) (map height ms)) c
      (cond (nat_lt j h) (f.hash (rows_of_height height row h j ms)) f.default_digest)
      ≡ with_rows f n (list_any (λ y. eqb (exponent y) x) (map height ms)) c
      (row_digest f (filter (λ m. eqb (exponent m.height) x) (map (matrix_of height width row) ms)) j)
  with_rows_same f n j c ms w =
      elim (cases_Bool (list_any (λ y. eqb (exponent y) x) (map height ms))) [
        | inl e ↦ rw (e, tall_same j ms w e, digest_same f j ms (exponent_is_there ms w e) w) refl
        | inr e ↦ rw e refl
      ]

-- a fact of the first, and of all others
all_more : {A : Type 0} (P : A → Type 0) (x : A) (xs : List A) → P x → All P xs → All P (x ∷ xs)
all_more P x xs first others zero d b = first
all_more P x xs first others (suc k) d b = others k d (omega arith)

-- matrices that are picked by their height, and read through references
module _ {T M R : Type 0} (height : M → ℕ) (row : M → ℕ → List T) (now : R → M) (h : ℕ) where
  -- they have it
  filter_high : (ms : List M) → All (λ m. height m ≡ h) (filter (λ m. eqb (height m) h) ms)
  filter_high [] = λ k d b. absurd (omega (arith, b))
  filter_high (m ∷ ms) =
      elim (cases_Bool (eqb (height m) h)) [
        | inl t ↦ rw t (all_more (λ m. height m ≡ h) m (filter (λ m. eqb (height m) h) ms) (eqb-true (height m) h t)
            (filter_high ms))
        | inr f ↦ rw f (filter_high ms)
      ]

  all_mapped : (rs : List R) → All (λ m. height m ≡ h) (map now rs) → All (λ r. height (now r) ≡ h) rs
  all_mapped [] all = λ k d b. absurd (omega (arith, b))
  all_mapped (r ∷ rs) all = all_more (λ r. height (now r) ≡ h) r rs (all 0 (now r) (omega arith))
      (all_mapped rs (λ k d b. all (suc k) d (omega arith)))

  pub picked_high : (rs : List R) (ms : List M) → map now rs ≡ filter (λ m. eqb (height m) h) ms →
      All (λ r. height (now r) ≡ h) rs
  picked_high rs ms e = all_mapped rs (subst (λ (l : List M). All (λ m. height m ≡ h) l) (sym e) (filter_high ms))

  -- and their rows are those of all matrices of the height
  module _ (j : ℕ) where
    rows_of_references : (rs : List R) → rows_over (λ r. row (now r)) rs j ≡ rows_over row (map now rs) j
    rows_of_references [] = refl
    rows_of_references (r ∷ rs) = ap (λ l. row (now r) j ++ l) (rows_of_references rs)

    rows_of_picked : (ms : List M) → rows_over row (filter (λ m. eqb (height m) h) ms) j
        ≡ rows_of_height height row h j ms
    rows_of_picked [] = refl
    rows_of_picked (m ∷ ms) =
        elim (cases_Bool (eqb (height m) h)) [
          | inl t ↦ rw t (ap (λ ws. row m j ++ ws) (rows_of_picked ms))
          | inr f ↦ rw f (rows_of_picked ms)
        ]

    pub rows_picked : (rs : List R) (ms : List M) → map now rs ≡ filter (λ m. eqb (height m) h) ms →
        rows_over (λ r. row (now r)) rs j ≡ rows_of_height height row h j ms
    rows_picked rs ms e = rows_of_references rs ∙ ap (λ l. rows_over row l j) e ∙ rows_of_picked ms

-- on the ladder, an exponent is one height's
agree : {M : Type 0} (height : M → ℕ) (top x : ℕ) (ms : List M) → All (λ y. y ≡ expected_height top y) (map height ms) →
    All (λ m. exponent (height m) ≡ x → height m ≡ height_at top x) ms
agree height top x [] on k d b e = absurd (omega arith)
agree height top x (m ∷ ms) on zero d b e = on 0 0 (omega arith) ∙ ap (λ q. (top - 1) / 2 ^ (exponent top - q) + 1) e
agree height top x (m ∷ ms) on (suc k) d b e = agree height top x ms (λ i z l. on (suc i) z (omega arith)) k d
    (omega arith) e

-- past the nodes there are default digests
node_past : {T W : Type 0} (f : Functions T W) (b : Batch T) (l j : ℕ) → raw_len (shape b) (suc l) ≤ j →
    node f b (suc l) j ≡ f.default_digest
unfolding node
node_past f b l j h =
    cond-false (nat_lt j (raw_len (shape b) (suc l)))
    (with_rows f b.arity (has_rows (shape b) (suc l)) (compress_padded f b.arity (children_by (node f b) (shape b) l j))
    (row_digest f (at_layer b (suc l)) j)) f.default_digest (le-ltb j (raw_len (shape b) (suc l)) h)

-- a slot of the first layer
node_first : {T W : Type 0} (f : Functions T W) (b : Batch T) (j : ℕ) → node f b 0 j
    ≡ cond (nat_lt j (greatest (heights (shape b)))) (f.hash (joined_rows (at_layer b 0) j)) f.default_digest
unfolding node raw_len
node_first f b j = refl

module _ {T W M : Type 0} (f : Functions T W) (n : ℕ) (height width_of : M → ℕ) (row : M → ℕ → List T) (ms : List M)
  where
    abbrev pub whole : Batch T
    whole = batch_of height width_of row n ms

    -- the digests of the rows of the matrices of a height
    abbrev pub leaf_above : ℕ → ℕ → List W
    leaf_above h = leaf_over f.hash f.default_digest (λ j. rows_of_height height row h j ms) h

    -- the heights of the tree's shape are the matrices'
    heights_are : heights (shape whole) ≡ map height ms
    heights_are =
        ap (λ ds. map (λ d. d.height) ds)
        (map-map (λ m. record { width = m.width; height = m.height }) (matrix_of height width_of row) ms)
        ∙ map-map (λ d. d.height) (λ m. record { width = width_of m; height = height m }) ms

    -- which are lawful
    on_ladder : IsLawful (heights (shape whole)) →
        All (λ y. y ≡ expected_height (greatest (heights (shape whole))) y) (map height ms)
    on_ladder w = subst (λ (hs : List ℕ). All (λ y. y ≡ expected_height (greatest (heights (shape whole))) y) hs)
        heights_are w.on_ladder

    -- a node is built as it is defined
    built_is : (v : LayerShape) (below : List (List W)) (j : ℕ) → IsLevel (shape whole) v →
        IsLawful (heights (shape whole)) →
        below ≡ layer f whole v.below → j < v.raw_len →
        node_above f n (leaf_above v.height) v.has_rows j (take v.step (drop (v.step * j) below))
        ≡ node f whole (suc v.below) j
    built_is v below j k w e h =
        let s = shape whole in
        let l = v.below in
        let top = greatest (heights s) in
        let x = layer_exponent s (suc l) in
        let group = children_by (node f whole) (shape whole) l j in
        let c = compress_padded f n group in
        let more : v.step * suc j ≤ v.step * v.raw_len = mul-le-mul_left v.step h in
        let inside : step s l * j + step s l ≤ layer_len s l =
        rw (← k.step_is) (omega (arith, more, k.fits, mul-suc v.step j)) in
        let kids : take v.step (drop (v.step * j) below)
        ≡ group = rw (e, k.step_is) (part_made (node f whole l) (layer_len s l) (step s l * j) (step s l) inside) in
        let same = with_rows_same height width_of row x (height_at top x) f n j c ms
        (agree height top x ms (on_ladder w)) in
        rw (kids, k.rows_are, k.height_is)
        (ap (λ (hs : List ℕ). with_rows f n (list_any (λ y. eqb (exponent y) x) hs) c
        (cond (nat_lt j (height_at top x)) (f.hash (rows_of_height height row (height_at top x) j ms))
        f.default_digest)) heights_are
        ∙ same
        ∙ ap (λ (hs : List ℕ). with_rows f n (list_any (λ y. eqb (exponent y) x) hs) c
        (row_digest f (at_layer whole (suc l)) j)) (sym heights_are)
        ∙ sym (node_next f whole l j (omega (arith, k.raw_is))))

    -- the layer above a layer of the definition is the definition's
    pub layer_next : (v : LayerShape) (below : List (List W)) → IsLevel (shape whole) v →
        IsLawful (heights (shape whole)) →
        below ≡ layer f whole v.below →
        map (λ j. cond (nat_lt j v.raw_len)
        (node_above f n (leaf_above v.height) v.has_rows j (take v.step (drop (v.step * j) below))) f.default_digest)
        (range_with_len 0 v.layer_len) ≡ layer f whole (suc v.below)
    layer_next v below k w e =
        rw (← k.layer_len_is)
        (same_made (λ j.
        cond (nat_lt j v.raw_len)
        (node_above f n (leaf_above v.height) v.has_rows j (take v.step (drop (v.step * j) below))) f.default_digest)
        (node f whole (suc v.below)) v.layer_len
        (λ j b. elim (cases_lt j v.raw_len) [
          | inl lt ↦ cond-true (nat_lt j v.raw_len)
              (node_above f n (leaf_above v.height) v.has_rows j (take v.step (drop (v.step * j) below)))
              f.default_digest (lt-ltb j v.raw_len lt) ∙ built_is v below j k w e lt
          | inr ge ↦ cond-false (nat_lt j v.raw_len)
              (node_above f n (leaf_above v.height) v.has_rows j (take v.step (drop (v.step * j) below)))
              f.default_digest (le-ltb j v.raw_len ge) ∙ sym (node_past f whole v.below j (omega (arith, k.raw_is)))
        ]))

    -- and so is the first layer
    pub layer_first : (top slots : ℕ) → top ≡ greatest (heights (shape whole)) → slots ≡ layer_len (shape whole) 0 →
        IsLawful (heights (shape whole)) →
        map (λ j. cond (nat_lt j top) (f.hash (rows_of_height height row top j ms)) f.default_digest)
        (range_with_len 0 slots) ≡ layer f whole 0
    layer_first top slots is wide w =
        let some = w.some_above_0 in
        let x = exponent top in
        let here : height_at top x ≡ top = let z : exponent top - exponent top ≡ 0 = omega arith in
        rw z (omega (arith, is)) in
        let all = subst (λ (q : ℕ). All (λ m. exponent (height m) ≡ x → height m ≡ q) ms) here
        (agree height top x ms (rw is (on_ladder w))) in
        let at : x ≡ layer_exponent (shape whole) 0 = ap exponent is ∙ sym (layer_start (shape whole)) in
        rw (← wide)
        (same_made (λ j. cond (nat_lt j top) (f.hash (rows_of_height height row top j ms)) f.default_digest)
        (node f whole 0) slots
        (λ j b. digest_same height width_of row x top f j ms refl all
        ∙ ap (λ (y : ℕ).
        cond (nat_lt j top) (f.hash (joined_rows (filter (λ m. eqb (exponent m.height) y) whole.matrices) j))
        f.default_digest) at
        ∙ ap (λ (q : ℕ). cond (nat_lt j q) (f.hash (joined_rows (at_layer whole 0) j)) f.default_digest) is
        ∙ sym (node_first f whole j)))
