-- The digests of a boundary: layer by layer, and on each layer from one covered node to the next.
use Rattle.std.proofs.Common.{◌≡◌, ℕ, zero, suc, ◌+◌, ◌-◌, ◌*◌, ◌/◌, ◌%◌, ◌<◌, ◌≤◌, Bool, true, false, not, eqb, List}
use Rattle.std.proofs.Common.{[], ◌∷◌, ◌++◌, map, refl, ap, sym, ◌∙◌, arith, add-one, inl, inr, length, filter, get_or}
use Rattle.std.proofs.Common.{take, drop, drop-cons, All, Vec, append_assoc, eq-eqb, min, max}
use Rattle.std.proofs.lemmas.Bool.{cases_eq, cases_lt, and_from, and_parts, eqb-true, false_from_ne_true, not-true}
use Rattle.std.proofs.lemmas.Bool.{not_from_false, true≢false}
use Rattle.std.proofs.lemmas.List.{map-append, append-nil, get_or_default, map_more, get_or-map, drop-drop, drop-take}
use Rattle.std.proofs.lemmas.List.{take-take}
use Rattle.std.proofs.lemmas.List.Elements.{filter-append, filter_agree}
use Rattle.std.proofs.lemmas.List.Folds.{Any-from_list_any, list_any_at}
use Rattle.std.proofs.lemmas.List.Kept.{AllPairs-from_increasing}
use Rattle.std.proofs.Math.Nat.{mul-le-mul_left}
use Rattle.std.specs.List.{list_any, range_with_len, remove}
use Rattle.std.specs.Cmp.{both_ways}
use Rattle.std.specs.Prelude.{slice_index_or}
use Rattle.std.specs.List.Sorted.{IsStrictlyIncreasing}
use Rattle.p3_support.specs.Lists.{is_among}
use Rattle.p3_merkle_core.specs.Geometry.{Shape, step, layer_len}
use Rattle.p3_merkle_core.specs.Pruning.{CanQuery, is_covered, is_boundary, boundary_at, boundary, boundary_by}
use Rattle.p3_merkle_core.specs.Inner.Covered.{covered_at}
use Rattle.p3_merkle_core.specs.Openings.{node_in}
use Rattle.p3_merkle_core.proofs.Lists.ListFacts.{joined_more}
use Rattle.p3_merkle_core.proofs.Lists.RisingFacts.{all_kept, div_mono, increasing_from, listed_at}
use Rattle.p3_merkle_core.proofs.Lists.RisingFacts.{none_kept, place_of, range_joined, rising_filter}
use Rattle.p3_merkle_core.proofs.Covered.CoveredFacts.{covered_child, covered_listed, group_fits, listed_covered}
use Rattle.p3_merkle_core.proofs.Shapes.StepFacts.{step_above_1}
use Rattle.p3_merkle_core.proofs.Covered.Under.{covered_up}
use Rattle.p3_support.specs.Shown.{row_lists, row_sets}
use Rattle.p3_merkle_prover.specs.Inner.Own.{is_beside, others_beside}

-- ---- groups

in_group : (n node j : ℕ) → 0 < n → node - node % n ≤ j → j < node - node % n + n → node / n ≡ j / n
in_group n node j some low high =
    let whole : n * (node / n) + node % n ≡ node = omega arith in
    sym (place_of n (node / n) j (omega arith) (omega arith))

group_bounds : (n node j : ℕ) → 0 < n → node / n ≡ j / n → (node - node % n ≤ j) × (j < node - node % n + n)
group_bounds n node j some e =
    let whole : n * (node / n) + node % n ≡ node = omega arith in
    let here : n * (j / n) + j % n ≡ j = omega arith in
    let small : j % n < n = omega arith in
    let same : n * (node / n) ≡ n * (j / n) = ap (λ g. n * g) e in
    (omega arith, omega arith)

starts_mono : (n a b : ℕ) → 0 < n → a ≤ b → a - a % n ≤ b - b % n
starts_mono n a b some h =
    let whole : n * (a / n) + a % n ≡ a = omega arith in
    let there : n * (b / n) + b % n ≡ b = omega arith in
    let up : n * (a / n) ≤ n * (b / n) = mul-le-mul_left n (div_mono n a b some h) in
    omega arith

-- ---- what is beside

found_in : (p : ℕ → Bool) (xs : List ℕ) → list_any p xs ≡ true → (i : ℕ) × (i < length xs) × (p (get_or xs i 0) ≡ true)
found_in p xs h =
    let q = Any-from_list_any p xs h in
    (q.0, q.2, ap p (get_or_default xs q.0 0 q.1 q.2 ∙ q.3) ∙ q.4)

not_beside : (covered : List ℕ) (n j : ℕ) → ((i : ℕ) → i < length covered → get_or covered i 0 / n ≡ j / n → ⊥) →
    is_beside covered n j ≡ false
not_beside covered n j none =
    false_from_ne_true (is_beside covered n j) (λ t.
    let parts = and_parts (list_any (λ k. eqb (k / n) (j / n)) covered) (not (is_among covered j)) t in
    let q = found_in (λ k. eqb (k / n) (j / n)) covered parts.0 in
    none q.0 q.1 (eqb-true (get_or covered q.0 0 / n) (j / n) q.2))

beside_itself : (covered : List ℕ) (n place j : ℕ) → place < length covered → j ≡ get_or covered place 0 →
    is_beside covered n j ≡ false
beside_itself covered n place j h e =
    false_from_ne_true (is_beside covered n j) (λ t.
    let parts = and_parts (list_any (λ k. eqb (k / n) (j / n)) covered) (not (is_among covered j)) t in
    true≢false (sym (ap (is_among covered) e ∙ listed_at covered place 0 h) ∙ not-true (is_among covered j) parts.1))

beside_at : (covered : List ℕ) (n place j : ℕ) → place < length covered → get_or covered place 0 / n ≡ j / n →
    ((i : ℕ) → i < length covered → get_or covered i 0 ≡ j → ⊥) → is_beside covered n j ≡ true
beside_at covered n place j h e other =
    let out = false_from_ne_true (is_among covered j) (λ t. let q = found_in (λ k. eqb k j) covered t in
    other q.0 q.1 (eqb-true (get_or covered q.0 0) j q.2)) in
    and_from (list_any (λ k. eqb (k / n) (j / n)) covered) (not (is_among covered j))
    (list_any_at (λ k. eqb (k / n) (j / n)) covered place 0 h (eq-eqb (get_or covered place 0 / n) (j / n) e))
    (not_from_false (is_among covered j) out)

-- ---- from one covered node to the next

-- what lies below next is done with: the covered nodes up to the place do, and what is beside them from next on lies
-- after the covered node at the place
pub record IsGone (covered : List ℕ) (n place next : ℕ) : Type 0 where
  pub behind : (i : ℕ) → i < place → get_or covered i 0 < next
  pub before : place < length covered → next ≤ get_or covered place 0
  pub closed : (i j : ℕ) → i < place → next ≤ j → get_or covered i 0 / n ≡ j / n → (place < length covered) ×
      (get_or covered place 0 ≤ j)

pub gone_start : (covered : List ℕ) (n : ℕ) → IsGone covered n 0 0
gone_start covered n = record {
  behind = λ i h. absurd (omega arith);
  before = λ h. omega arith;
  closed = λ i j h. absurd (omega arith);
}

-- one covered node more, and what is beside it: from its group's start, or from next on, and up to end
pub record HasTurned (covered : List ℕ) (n place next from node end : ℕ) : Type 0 where
  pub ahead : next ≤ from
  pub low : from ≤ node
  pub high : node < end
  pub fits : end ≤ node - node % n + n
  pub skipped : (j : ℕ) → next ≤ j → j < from → is_beside covered n j ≡ false
  pub first : (j : ℕ) → from ≤ j → j < node → is_beside covered n j ≡ true
  pub itself : is_beside covered n node ≡ false
  pub rest : (j : ℕ) → node + 1 ≤ j → j < end → is_beside covered n j ≡ true
  pub gone : IsGone covered n (place + 1) end

-- where the others beside a covered node end: at the next covered node, or at the end of its group
pub record EndsAt (covered : List ℕ) (place top end : ℕ) : Type 0 where
  pub next : place < length covered → end ≡ min top (get_or covered place 0)
  pub last : length covered ≤ place → end ≡ top

-- the numbers that ascend, from place to place
ordered : (covered : List ℕ) → IsStrictlyIncreasing covered → (i j : ℕ) → i < j → j < length covered →
    get_or covered i 0 < get_or covered j 0
ordered covered up i j l h = AllPairs-from_increasing covered up i j 0 l h

above_end : (covered : List ℕ) (place top end i : ℕ) → IsStrictlyIncreasing covered → EndsAt covered place top end →
    place ≤ i → i < length covered → end ≤ get_or covered i 0
above_end covered place top end i up w le h =
    let e = w.next (omega arith) in
    elim (cases_eq place i) [
      | inl same ↦ omega (arith, rw same at e)
      | inr ne ↦ omega (arith, ordered covered up place i (omega arith) h)
    ]

gone_more : (covered : List ℕ) (n place node end : ℕ) → 0 < n → IsStrictlyIncreasing covered → place < length covered →
    node ≡ get_or covered place 0 → EndsAt covered (place + 1) (node - node % n + n) end → node < end →
    IsGone covered n (place + 1) end
gone_more covered n place node end some up h at ends high =
    let least = λ (i : ℕ) (l : i < place + 1). elim (cases_eq i place) as (λ _. get_or covered i 0 ≤ node) [
      | inl same ↦ omega (arith, ap (λ k. get_or covered k 0) same)
      | inr ne ↦ omega (arith, ordered covered up i place (omega arith) h)
    ] in
    record {
      behind = λ i l. omega (arith, least i l);
      before = λ l. omega (arith, ends.next l);
      closed = λ i j l le e.
          let bounds = group_bounds n (get_or covered i 0) j some e in
          let start = starts_mono n (get_or covered i 0) node some (least i l) in
          elim (cases_lt (place + 1) (length covered)) [
            | inl more ↦ (more, omega (arith, ends.next more, bounds.1))
            | inr none ↦ absurd (omega (arith, ends.last none, bounds.1))
          ];
    }

pub turned : (covered : List ℕ) (n place next from node end : ℕ) → 0 < n → IsStrictlyIncreasing covered →
    place < length covered → IsGone covered n place next → node ≡ get_or covered place 0 → from
    ≡ max (node - node % n) next →
    EndsAt covered (place + 1) (node - node % n + n) end → HasTurned covered n place next from node end
turned covered n place next from node end some up h gone at start ends =
    let small : node % n < n = omega arith in
    let high : node < end = elim (cases_lt (place + 1) (length covered)) [
      | inl more ↦ omega (arith, ends.next more, ordered covered up place (place + 1) (omega arith) more)
      | inr none ↦ omega (arith, ends.last none)
    ] in
    let below : end ≤ node - node % n + n = elim (cases_lt (place + 1) (length covered)) [
      | inl more ↦ omega (arith, ends.next more)
      | inr none ↦ omega (arith, ends.last none)
    ] in
    let from_node = λ (i : ℕ) (l : place ≤ i) (k : i < length covered).
    elim (cases_eq place i) as (λ _. node ≤ get_or covered i 0) [
      | inl same ↦ omega (arith, ap (λ m. get_or covered m 0) same)
      | inr ne ↦ omega (arith, ordered covered up place i (omega arith) k)
    ] in
    let to_node = λ (i : ℕ) (l : i ≤ place). elim (cases_eq i place) as (λ _. get_or covered i 0 ≤ node) [
      | inl same ↦ omega (arith, ap (λ m. get_or covered m 0) same)
      | inr ne ↦ omega (arith, ordered covered up i place (omega arith) h)
    ] in
    record {
      ahead = omega arith;
      low = omega (arith, gone.before h);
      high = high;
      fits = below;
      skipped = λ j l k. not_beside covered n j (λ i m e. elim (cases_lt i place) [
        | inl less ↦ omega (arith, (gone.closed i j less l e).1)
        | inr more ↦ omega (
          arith,
          (group_bounds n (get_or covered i 0) j some e).0,
          starts_mono n node (get_or covered i 0) some (from_node i more m),
        )
      ]);
      first = λ j l k.
          beside_at covered n place j h (ap (λ m. m / n) (sym at) ∙ in_group n node j some (omega arith) (omega arith))
          (λ i m e. elim (cases_lt i place) [
            | inl less ↦ omega (arith, gone.behind i less)
            | inr more ↦ omega (arith, from_node i more m)
          ]);
      itself = beside_itself covered n place node h at;
      rest = λ j l k.
          beside_at covered n place j h (ap (λ m. m / n) (sym at) ∙ in_group n node j some (omega arith) (omega arith))
          (λ i m e. elim (cases_lt place i) [
            | inl more ↦ omega (
              arith,
              above_end covered (place + 1) (node - node % n + n) end
                  i up ends (omega arith) m,
            )
            | inr less ↦ omega (arith, to_node i less)
          ]);
      gone = gone_more covered n place node end some up h at ends high;
    }

-- ---- the digests

skip_to : (p : ℕ → Bool) (a b : ℕ) → a ≤ b → ((j : ℕ) → a ≤ j → j < b → p j ≡ false) → filter p (range_with_len 0 b)
    ≡ filter p (range_with_len 0 a)
skip_to p a b le none =
    let e : a + (b - a) ≡ b = omega arith in
    let z : 0 + a ≡ a = omega arith in
    let joined = rw (e, z) at (range_joined 0 a (b - a)) in
    let nothing = none_kept p a (b - a) (λ j low high. none j low (omega arith)) in
    ap (filter p) joined ∙ filter-append p (range_with_len 0 a) (range_with_len a (b - a))
    ∙ rw nothing (append-nil (filter p (range_with_len 0 a)))

take_to : (p : ℕ → Bool) (a b : ℕ) → a ≤ b → ((j : ℕ) → a ≤ j → j < b → p j ≡ true) → filter p (range_with_len 0 b)
    ≡ filter p (range_with_len 0 a) ++ range_with_len a (b - a)
take_to p a b le all =
    let e : a + (b - a) ≡ b = omega arith in
    let z : 0 + a ≡ a = omega arith in
    let joined = rw (e, z) at (range_joined 0 a (b - a)) in
    let each = all_kept p a (b - a) (λ j low high. all j low (omega arith)) in
    ap (filter p) joined ∙ filter-append p (range_with_len 0 a) (range_with_len a (b - a))
    ∙ ap (λ ys. filter p (range_with_len 0 a) ++ ys) each

-- a run of a layer, number by number
run_of : {X : Type 0} (layer : List X) (d : X) (k a : ℕ) → a + k ≤ length layer →
    map (λ j. slice_index_or layer j d) (range_with_len a k) ≡ take k (drop a layer)
run_of layer d zero a h = refl
run_of layer d (suc k) a h =
    let e : a + 1 ≡ suc a = omega arith in
    let next = run_of layer d k (a + 1) (omega arith) in
    rw (drop-cons layer a d (omega arith)) (ap (λ ys. get_or layer a d ∷ ys) (next ∙ ap (λ m. take k (drop m layer)) e))

-- the others of the numbers below next, in a layer
abbrev pub others_below : {X : Type 0} → List X → List ℕ → ℕ → ℕ → X → List X
others_below layer covered n next d =
    map (λ j. slice_index_or layer j d) (filter (is_beside covered n) (range_with_len 0 next))

pub others_more : {X : Type 0} (layer : List X) (covered : List ℕ) (n place next from node end : ℕ)
    (old so_far middle new : List X) (d : X) → HasTurned covered n place next from node end → end ≤ length layer →
    so_far ≡ old ++ others_below layer covered n next d → middle ≡ so_far ++ take (node - from) (drop from layer) → new
    ≡ middle ++ take (end - (node + 1)) (drop (node + 1) layer) →
    new ≡ old ++ others_below layer covered n end d
others_more layer covered n place next from node end old so_far middle new d w fits is_so_far is_middle is_new =
    let p = is_beside covered n in
    let at = λ (j : ℕ). slice_index_or layer j d in
    let to_from = skip_to p next from w.ahead w.skipped in
    let to_node = take_to p from node w.low w.first in
    let past_node = skip_to p node (node + 1) (omega arith) (λ j l k. let e : node ≡ j = omega arith in
    rw e at w.itself) in
    let to_end = take_to p (node + 1) end (omega (arith, w.high)) w.rest in
    let one = run_of layer d (node - from) from (omega (arith, w.low, w.high)) in
    let two = run_of layer d (end - (node + 1)) (node + 1) (omega (arith, w.high)) in
    let before = map at (filter p (range_with_len 0 next)) in
    let all : others_below layer covered n end d ≡ (before ++ take (node - from) (drop from layer))
    ++ take (end - (node + 1)) (drop (node + 1) layer) =
    ap (map at) (to_end ∙ ap (λ ys. ys ++ range_with_len (node + 1) (end - (node + 1))) (past_node ∙ to_node
    ∙ ap (λ ys. ys ++ range_with_len from (node - from)) to_from))
    ∙ map-append at (filter p (range_with_len 0 next) ++ range_with_len from (node - from))
    (range_with_len (node + 1) (end - (node + 1)))
    ∙ rw (map-append at (filter p (range_with_len 0 next)) (range_with_len from (node - from)), one, two) refl in
    is_new ∙ rw (is_middle, is_so_far, all)
    (ap (λ ys. ys ++ take (end - (node + 1)) (drop (node + 1) layer))
    (append_assoc old before (take (node - from) (drop from layer)))
    ∙ append_assoc old (before ++ take (node - from) (drop from layer))
    (take (end - (node + 1)) (drop (node + 1) layer)))

-- a part of a list without the place p: what is before it there, and what is after it
part_without : {X : Type 0} (xs : List X) (a p n : ℕ) → p < n →
    take p (drop a xs) ++ take (n - suc p) (drop (a + suc p) xs) ≡ remove (take n (drop a xs)) p
part_without xs a p n h =
    let whole : n ≡ suc p + (n - suc p) = omega arith in
    let front = take-take p n (drop a xs) (omega arith) in
    let back = ap (λ m. drop (suc p) (take m (drop a xs))) whole ∙ drop-take (suc p) (n - suc p) (drop a xs)
    ∙ ap (take (n - suc p)) (drop-drop (suc p) a xs) in
    sym (ap (λ ys. ys ++ drop (suc p) (take n (drop a xs))) front ∙ ap (λ ys. take p (drop a xs) ++ ys) back)

-- the same of a node's part of a layer, up to the end of its group or the next covered node
pub others_without : {X : Type 0} (layer : List X) (covered : List ℕ) (n place next from node end : ℕ)
    (old so_far new : List X) (d : X) → HasTurned covered n place next from node end → end ≤ length layer →
    so_far ≡ old ++ others_below layer covered n next d →
    new ≡ so_far ++ remove (take (end - from) (drop from layer)) (node - from) →
    new ≡ old ++ others_below layer covered n end d
others_without layer covered n place next from node end old so_far new d w fits is_so_far is_new =
    let front = take (node - from) (drop from layer) in
    let size : end - from - suc (node - from) ≡ end - (node + 1) = omega (arith, w.low, w.high) in
    let behind : from + suc (node - from) ≡ node + 1 = omega (arith, w.low) in
    let parts = rw (size, behind) at
    (part_without layer from (node - from) (end - from) (omega (arith, w.low, w.high))) in
    others_more layer covered n place next from node end old so_far (so_far ++ front) new d w fits is_so_far refl
    (is_new ∙ ap (λ ys. so_far ++ ys) (sym parts)
    ∙ sym (append_assoc so_far front (take (end - (node + 1)) (drop (node + 1) layer))))

-- after the last covered node nothing is left
pub others_end : {X : Type 0} (layer : List X) (covered : List ℕ) (n place next : ℕ) (d : X) → length covered ≤ place →
    next ≤ length layer → IsGone covered n place next → others_beside layer covered n d
    ≡ others_below layer covered n next d
others_end layer covered n place next d all fits gone =
    ap (map (λ j. slice_index_or layer j d))
    (skip_to (is_beside covered n) next (length layer) fits
    (λ j low high. not_beside covered n j (λ i h e. let w = gone.closed i j (omega arith) low e in
    omega (arith, w.0))))

-- ---- one level of a tree

pub covered_increasing : (s : Shape) (indices : List ℕ) (l : ℕ) (xs : List ℕ) → xs ≡ covered_at s indices l →
    IsStrictlyIncreasing xs
covered_increasing s indices l xs e =
    rw e (increasing_from 0 (covered_at s indices l) (rising_filter (is_covered s indices l) 0 (layer_len s l)))

-- the group of each covered node lies in a layer of this length
pub groups_fit : (s : Shape) (indices : List ℕ) (t : ℕ) → CanQuery s indices t → (l : ℕ) → l < t →
    (n len : ℕ) (here : List ℕ) → n ≡ step s l → len ≡ layer_len s l → here ≡ covered_at s indices l →
    All (λ k. k - k % n + n ≤ len) here
groups_fit s indices t w l h n len here is_step is_len is i d below =
    let k = get_or here i d in
    let some : 0 < n = omega (arith, step_above_1 s l w.well_shaped.above_1) in
    let c : is_covered s indices l k
    ≡ true = listed_covered s indices l k (ap (λ (xs : List ℕ). is_among xs k) (sym is)
    ∙ listed_at here i d below) in
    let up = covered_listed s indices t w (suc l) (k / step s l) (omega arith) (covered_up s indices l k c) in
    let fits : n * (k / n) + n ≤ len = rw (is_step, is_len) (group_fits s indices t w l h (k / step s l) up) in
    let whole : n * (k / n) + k % n ≡ k = omega arith in
    omega arith

-- the boundary nodes are those beside covered ones
beside_is : (s : Shape) (indices : List ℕ) (t : ℕ) → CanQuery s indices t → (l : ℕ) → l < t → (j : ℕ) →
    is_boundary s indices l j ≡ is_beside (covered_at s indices l) (step s l) j
beside_is s indices t w l h j =
    let n = step s l in
    let here = covered_at s indices l in
    let listed = both_ways (is_covered s indices l j) (is_among here j)
    (covered_listed s indices t w l j (omega arith)) (listed_covered s indices l j) in
    let above = both_ways (is_covered s indices (suc l) (j / n)) (list_any (λ k. eqb (k / n) (j / n)) here)
    (λ c.
    let child = covered_child s indices l (j / n) c in
    let q = found_in (λ k. eqb k child.0) here (covered_listed s indices t w l child.0 (omega arith) child.1) in
    list_any_at (λ k. eqb (k / n) (j / n)) here q.0 0 q.1
    (rw (eqb-true (get_or here q.0 0) child.0 q.2) (eq-eqb (child.0 / n) (j / n) child.2)))
    (λ c.
    let q = found_in (λ k. eqb (k / n) (j / n)) here c in
    let up = covered_up s indices l (get_or here q.0 0)
    (listed_covered s indices l (get_or here q.0 0) (listed_at here q.0 0 q.1)) in
    rw (eqb-true (get_or here q.0 0 / n) (j / n) q.2) at up) in
    rw (listed, above) refl

map_pairs : {X : Type 0} (g : ℕ × ℕ → X) (l : ℕ) (js : List ℕ) → map g (map (λ j. (l, j)) js) ≡ map (λ j. g (l, j)) js
map_pairs g l [] = refl
map_pairs g l (j ∷ js) = ap (λ ys. g (l, j) ∷ ys) (map_pairs g l js)

-- one level more
pub boundary_next : {X : Type 0} (s : Shape) (layers : List (List X)) (indices : List ℕ) (t : ℕ) →
    CanQuery s indices t → (l : ℕ) → l < t → (d : X) → length (get_or layers l []) ≡ layer_len s l →
    boundary_by (node_in d layers) s indices (suc l) ≡ boundary_by (node_in d layers) s indices l
    ++ others_beside (get_or layers l []) (covered_at s indices l) (step s l) d
boundary_next s layers indices t w l h d long =
    let g = λ (x : ℕ × ℕ). slice_index_or (slice_index_or layers x.0 []) x.1 d in
    let here = λ (j : ℕ). slice_index_or (slice_index_or layers l []) j d in
    let range = range_with_len 0 (layer_len s l) in
    ap (map g) (joined_more (boundary_at s indices) l) ∙ map-append g (boundary s indices l) (boundary_at s indices l)
    ∙ ap (λ ys. map g (boundary s indices l) ++ ys)
    (map_pairs g l (filter (is_boundary s indices l) range)
    ∙ ap (map here) (filter_agree (is_boundary s indices l) (is_beside (covered_at s indices l) (step s l))
    (beside_is s indices t w l h) range)
    ∙ ap (λ m. map here (filter (is_beside (covered_at s indices l) (step s l)) (range_with_len 0 m))) (sym long))

-- one level more of the digests, from the tree's own layers
pub boundary_more : {V X : Type 0} (items : V → List X) (layers : List V) (s : Shape) (indices : List ℕ) (t : ℕ) →
    CanQuery s indices t → (l : ℕ) → l < t →
    (n : ℕ) (layer : V) (row : List X) (here : List ℕ) (old new : List X) (d : X) →
    n ≡ step s l → l < length layers → layer ≡ get_or layers l layer → length (items layer) ≡ layer_len s l → row
    ≡ items layer → here ≡ covered_at s indices l →
    old ≡ boundary_by (node_in d (map items layers)) s indices l → new ≡ old ++ others_beside row here n d → new
    ≡ boundary_by (node_in d (map items layers)) s indices (l + 1)
boundary_more items layers s indices t w l h n layer row here old new d is_step long is many is_row is_here is_old
    is_new =
    let read : get_or (map items layers) l [] ≡ items layer = get_or-map items layers l layer [] long
    ∙ ap items (sym is) in
    let next = rw read at (boundary_next s (map items layers) indices t w l h d (ap length read ∙ many)) in
    is_new ∙ rw (is_old, is_step, is_row, is_here, add-one) (sym next)

-- ---- row sets

-- one row set more
pub sets_more : {T A B : Type 0} (f : ℕ → List (List T)) (indices : List ℕ) (i : ℕ) (old new : List (Vec (Vec T A) B))
    (rows : Vec (Vec T A) B) → i < length indices →
    row_sets old ≡ map f (take i indices) → new ≡ old ++ rows ∷ [] → row_lists rows.items ≡ f (get_or indices i 0) →
    row_sets new ≡ map f (take (i + 1) indices)
sets_more f indices i old new rows h so_far is_new is =
    rw (is_new, map-append (λ (v : Vec (Vec _ _) _). row_lists v.items) old (rows ∷ []), so_far, is)
    (sym (map_more f indices i 0 h))
