-- What is compared slot by slot is what the definition compares index by index.
use Rattle.std.proofs.Common.{◌≡◌, ℕ, zero, suc, ◌+◌, ◌<◌, Bool, eqb, ◌&&◌, List, [], ◌∷◌, map, refl, ap, sym, ◌∙◌}
use Rattle.std.proofs.Common.{arith, inl, inr, length, get_or, eq-eqb, All, Option}
use Rattle.std.proofs.lemmas.Grind.{common_steps}
use Rattle.std.proofs.lemmas.Bool.{cases_lt, eqb-true, and_parts, and_from, false_from_ne_true}
use Rattle.std.proofs.lemmas.List.{get_or-map, length-map}
use Rattle.std.specs.List.{range_with_len}
use Rattle.p3_merkle_core.specs.Geometry.{Shape, ancestor, heights, layer_exponent}
use Rattle.p3_merkle_core.specs.Refusals.{group_refusal, lead, matrices_at, row_refusal, slots_below}
use Rattle.p3_answers.specs.Answers.{first_of}
use Rattle.p3_merkle_core.specs.Refusals.{width_refusal, rows_of}
use Rattle.p3_merkle_core.specs.Inner.Agreement.{distinct, slot_rows}
use Rattle.p3_merkle_core.specs.Inner.Agreement.{first_query, layers_refusal, matrices_with, opened_of, rows_refusal}
use Rattle.p3_merkle_core.specs.declared.error.MerkleTreeError.{MerkleTreeError}
use Rattle.p3_support.specs.Lists.{is_among}
use Rattle.p3_support.specs.Batches.{greatest}
use Rattle.p3_support.specs.declared.matrix.Dimensions.{Dimensions}
use Rattle.p3_merkle_core.proofs.Shapes.LeastFacts.{least_is}
use Rattle.p3_merkle_core.proofs.Lists.RisingFacts.{listed_at}
use Rattle.p3_merkle_core.proofs.Pruned.SlotFacts.{at_slot, first_place, found_at, highest, rising_order, some_place}
use Rattle.p3_merkle_core.proofs.Pruned.SlotFacts.{distinct_below, distinct_queried, distinct_rising, first_of_index}
use Rattle.p3_merkle_core.proofs.Pruned.LeadFacts.{first_before, first_there, layer_fault, first_slot_place, slot_fault}

-- ---- places

-- two walks that answer alike at each place
pub by_places : (g h : ℕ → Option MerkleTreeError) (xs : List ℕ) (a : ℕ) →
    ((k : ℕ) → k < length xs → g (a + k) ≡ h (get_or xs k 0)) → first_of g (range_with_len a (length xs))
    ≡ first_of h xs
by_places g h [] a e = refl
by_places g h (x ∷ xs) a e =
    let here : g a ≡ h x = rw (let z : a + 0 ≡ a = omega arith in z) at (e 0 (omega arith)) in
    let rest = by_places g h xs (a + 1) (λ k l. let z : a + 1 + k ≡ a + suc k = omega arith in
    rw z (e (suc k) (omega arith))) in
    rw (here, rest) refl

pub same_walk : (g h : ℕ → Option MerkleTreeError) (a n : ℕ) → ((i : ℕ) → g i ≡ h i) → first_of g (range_with_len a n)
    ≡ first_of h (range_with_len a n)
same_walk g h a zero e = refl
same_walk g h a (suc n) e = rw (e a, same_walk g h (a + 1) n e) refl

-- ---- the lowest slot under a node

pub first_slot_index : (s : Shape) (indices : List ℕ) (l k f : ℕ) → greatest indices < greatest (heights s) →
    k < length (distinct indices) →
    f ≡ first_query (map (ancestor s l) (distinct indices)) (get_or (map (ancestor s l) (distinct indices)) k 0) →
    lead s indices l (ancestor s l (get_or (distinct indices) k 0)) ≡ get_or (distinct indices) f 0
first_slot_index s indices l k f below h is =
    let leaves = distinct indices in
    let nodes = map (ancestor s l) leaves in
    let long : length nodes ≡ length leaves = length-map leaves (ancestor s l) in
    let j = ancestor s l (get_or leaves k 0) in
    let at : get_or nodes k 0 ≡ j = get_or-map (ancestor s l) leaves k 0 0 h in
    let inside : f < length nodes = first_slot_place nodes k f (omega arith) is in
    let v = get_or leaves f 0 in
    let there : ancestor s l v ≡ j = sym (get_or-map (ancestor s l) leaves f 0 0 (omega arith))
    ∙ ap (λ i. get_or nodes i 0) is ∙ first_there nodes (get_or nodes k 0) (listed_at nodes k 0 (omega arith))
    ∙ at in
    let asked = distinct_queried indices f (omega arith) in
    let p : ℕ → Bool = λ i. is_among indices i && eqb (ancestor s l i) j in
    least_is p (greatest (heights s)) v (omega (arith, highest indices v asked))
    (λ w lower. false_from_ne_true (p w) (λ yes.
    let both = and_parts (is_among indices w) (eqb (ancestor s l w) j) yes in
    let q = some_place indices w both.0 in
    let node : get_or nodes q.0 0 ≡ get_or nodes k 0 = get_or-map (ancestor s l) leaves q.0 0 0 q.1
    ∙ ap (ancestor s l) q.2 ∙ eqb-true (ancestor s l w) j both.1 ∙ sym at in
    elim (cases_lt q.0 f) [
      | inl less ↦ first_before nodes (get_or nodes k 0) q.0 (omega arith) node
      | inr rest ↦ elim (cases_lt f q.0) [
        | inl more ↦ absurd (omega (arith, rising_order 0 leaves (distinct_rising indices) f q.0 more q.1, q.2))
        | inr same ↦ let e : q.0 ≡ f = omega arith in absurd (omega (arith, q.2, ap (λ i. get_or leaves i 0) e))
      ]
    ]))
    (λ low. and_from (is_among indices v) (eqb (ancestor s l v) j) asked (eq-eqb (ancestor s l v) j there))

-- ---- the rows of a slot

pub rows_at : {T : Type 0} (firsts indices : List ℕ) (sets : List (List (List T))) (k : ℕ) → firsts
    ≡ map (first_query indices) (distinct indices) → length indices ≡ length sets → k < length (distinct indices) →
    slot_rows firsts sets k ≡ rows_of (opened_of indices sets) (get_or (distinct indices) k 0)
rows_at firsts indices sets k is e h = grind (arith, common_steps, at_slot, distinct_queried, found_at)

-- ---- the walks

slot_is : {T : Type 0} (row_eq : T → T → Bool) (s : Shape) (l : ℕ) (firsts indices : List ℕ)
    (sets : List (List (List T))) (k : ℕ) → firsts ≡ map (first_query indices) (distinct indices) → length indices
    ≡ length sets →
    greatest indices < greatest (heights s) → k < length (distinct indices) →
    slot_fault row_eq (matrices_with (heights s) (layer_exponent s l)) (map (ancestor s l) (distinct indices)) firsts
    sets k
    ≡ first_of (row_refusal row_eq s (opened_of indices sets) l (get_or (distinct indices) k 0)) (matrices_at s l)
slot_is row_eq s l firsts indices sets k is e below h =
    let leaves = distinct indices in
    let nodes = map (ancestor s l) leaves in
    let p = opened_of indices sets in
    let i = get_or leaves k 0 in
    let f = first_query nodes (get_or nodes k 0) in
    let ms = matrices_with (heights s) (layer_exponent s l) in
    let long : length nodes ≡ length leaves = length-map leaves (ancestor s l) in
    let inside : f < length nodes = first_slot_place nodes k f (omega arith) refl in
    let mine = rows_at firsts indices sets k is e h in
    let theirs = rows_at firsts indices sets f is e (omega arith)
    ∙ ap (rows_of p) (sym (first_slot_index s indices l k f below h refl)) in
    let slot = (found_at indices i k h refl).slot in
    ap (λ rows. rows_refusal row_eq ms k rows (slot_rows firsts sets f)) mine
    ∙ ap (λ rows. rows_refusal row_eq ms k (rows_of p i) rows) theirs
    ∙ ap (λ n. rows_refusal row_eq ms n (rows_of p i) (rows_of p (lead s indices l (ancestor s l i)))) slot

layer_is : {T : Type 0} (row_eq : T → T → Bool) (s : Shape) (l : ℕ) (firsts indices : List ℕ)
    (sets : List (List (List T))) → firsts ≡ map (first_query indices) (distinct indices) → length indices
    ≡ length sets →
    greatest indices < greatest (heights s) →
    layer_fault row_eq s (distinct indices) firsts sets l
    ≡ first_of (λ i. first_of (row_refusal row_eq s (opened_of indices sets) l i) (matrices_at s l))
    (slots_below (greatest (heights s)) indices)
layer_is row_eq s l firsts indices sets is e below =
    let leaves = distinct indices in
    let ms = matrices_with (heights s) (layer_exponent s l) in
    let g = slot_fault row_eq ms (map (ancestor s l) leaves) firsts sets in
    let h = λ (i : ℕ). first_of (row_refusal row_eq s (opened_of indices sets) l i) (matrices_at s l) in
    ap (λ n. first_of g (range_with_len 0 n)) (length-map leaves (ancestor s l))
    ∙ by_places g h leaves 0 (λ k low. ap g (let z : 0 + k ≡ k = omega arith in z)
    ∙ slot_is row_eq s l firsts indices sets k is e below low)
    ∙ ap (first_of h) (distinct_below (greatest (heights s)) indices below)

-- layer by layer and slot by slot, the answer is that of the definition
pub groups_are : {T : Type 0} (row_eq : T → T → Bool) (s : Shape) (t : ℕ) (firsts indices : List ℕ)
    (sets : List (List (List T))) → firsts ≡ map (first_query indices) (distinct indices) →
    length indices ≡ length sets → greatest indices < greatest (heights s) →
    layers_refusal row_eq s t (distinct indices) firsts sets ≡ group_refusal row_eq s t (opened_of indices sets)
groups_are row_eq s t firsts indices sets is e below =
    same_walk (layer_fault row_eq s (distinct indices) firsts sets)
    (λ l. first_of (λ i. first_of (row_refusal row_eq s (opened_of indices sets) l i) (matrices_at s l))
    (slots_below (greatest (heights s)) indices)) 0 (suc t)
    (λ l. layer_is row_eq s l firsts indices sets is e below)

mapped_walk : (h g : ℕ → Option MerkleTreeError) (f : ℕ → ℕ) (xs : List ℕ) →
    ((k : ℕ) → k < length xs → h (f (get_or xs k 0)) ≡ g (get_or xs k 0)) → first_of h (map f xs) ≡ first_of g xs
mapped_walk h g f [] e = refl
mapped_walk h g f (x ∷ xs) e = rw (e 0 (omega arith), mapped_walk h g f xs (λ k l. e (suc k) (omega arith))) refl

-- the widths of the first queries, slot by slot
pub widths_are : {T : Type 0} (dimensions : List Dimensions) (m : ℕ) (firsts indices : List ℕ)
    (sets : List (List (List T))) → firsts ≡ map (first_query indices) (distinct indices) → length indices
    ≡ length sets → greatest indices < m →
    first_of (λ query. width_refusal dimensions (get_or sets query [])) firsts
    ≡ first_of (λ i. width_refusal dimensions (rows_of (opened_of indices sets) i)) (slots_below m indices)
widths_are dimensions m firsts indices sets is e below =
    grind (arith, common_steps, distinct_below, distinct_queried, first_of_index, mapped_walk)

-- ---- what the calls ask

pub firsts_inside : (firsts indices : List ℕ) → firsts ≡ map (first_query indices) (distinct indices) →
    All (λ query. query < length indices) firsts
firsts_inside firsts indices is k d h =
    let low : k < length (distinct indices) =
    omega (arith, ap length is, length-map (distinct indices) (first_query indices)) in
    rw (is, get_or-map (first_query indices) (distinct indices) k 0 d low)
    (first_place indices (get_or (distinct indices) k 0) (distinct_queried indices k low))
