-- The distinct indices, ascending, their places, and the first query of each.
use Rattle.std.proofs.Common.{◌≡◌, ℕ, zero, suc, ◌+◌, ◌/◌, ◌<◌, ◌≤◌, Bool, true, false, eqb, List, [], ◌∷◌, map, refl}
use Rattle.std.proofs.Common.{ap, sym, ◌∙◌, arith, inl, inr, length, filter, get_or, set, drop, eq-eqb, All, zip}
use Rattle.std.proofs.Common.{replicate, ◌≢◌, drop-cons, add-one, Option, Some, not, Vec}
use Rattle.std.proofs.lemmas.Grind.{common_steps}
use Rattle.std.proofs.lemmas.Bool.{cases_Bool, eqb-true, or_cases, true≢false, ne_eqb, cases_lt}
use Rattle.std.proofs.lemmas.Cmp.{lists_equiv}
use Rattle.std.proofs.lemmas.List.{drop_all, get_or-map, get_or_default, length-map}
use Rattle.std.proofs.lemmas.List.Sorted.{IsNonDecreasingBy-from_sort, IsPermutation-map, list_any-IsPermutation}
use Rattle.std.specs.Cmp.{both_ways, IsEquivalence}
use Rattle.std.specs.Cmp.Derive.Mapped.{pointwise-map}
use Rattle.std.specs.Cmp.Lexicographic.{pointwise}
use Rattle.std.specs.List.{dedup, range_with_len}
use Rattle.std.specs.List.Sorted.{IsPermutation, IsSorted}
use Rattle.std.specs.Option.{option_or}
use Rattle.std.specs.Ordering.{is_lt, nat_cmp, ordering_then}
use Rattle.std.specs.declared.cmp.Ordering.{Ordering}
use Rattle.std.specs.declared.cmp.Ordering.TheVariants.{Less, Equal, Greater}
use Rattle.p3_support.specs.Shown.{row_lists, row_sets}
use Rattle.p3_support.specs.Lists.{is_among}
use Rattle.p3_support.specs.Batches.{greatest}
use Rattle.p3_merkle_core.specs.Geometry.{Shape, heights, layer_len, raw_len}
use Rattle.p3_merkle_core.specs.Pruning.{PrunedOpening, is_covered}
use Rattle.p3_merkle_core.specs.Inner.Covered.{covered_at}
use Rattle.p3_merkle_core.specs.Refusals.{slots_below, slot_of, rows_of}
use Rattle.p3_answers.specs.Answers.{first_of, unless}
use Rattle.p3_merkle_core.specs.declared.error.PrunedProofError.TheVariants.{InconsistentDuplicateOpenings}
use Rattle.p3_merkle_core.specs.declared.error.MerkleTreeError.{MerkleTreeError}
use Rattle.p3_merkle_core.specs.declared.error.MerkleTreeError.TheVariants.{MalformedPrunedProof}
use Rattle.p3_merkle_core.specs.Inner.Agreement.{distinct, first_query, opened_of, IsAscending, IsSlot}
use Rattle.p3_merkle_core.proofs.Checks.CheckFacts.{padded_ge}
use Rattle.p3_merkle_core.proofs.Lists.RisingFacts.{IsRising, div_mono, filter_is, listed_dedup, listed_in}
use Rattle.p3_merkle_core.proofs.Lists.RisingFacts.{listed_from, listed_there, listed_at, rising_filter, rising_once}
use Rattle.p3_merkle_core.proofs.Covered.CoveredFacts.{covered_leaf, listed_below, listed_covered, raw_start}

-- ---- indices below a bound

pub highest : (indices : List ℕ) (i : ℕ) → is_among indices i ≡ true → i ≤ greatest indices
highest [] i h = absurd (true≢false (sym h))
highest (q ∷ indices) i h =
    elim (or_cases (eqb q i) (is_among indices i) h) [
      | inl e ↦ let is = eqb-true q i e in omega arith
      | inr rest ↦ let below = highest indices i rest in omega arith
    ]

tail_below : (m q : ℕ) (indices : List ℕ) → q < m → All (λ q. q < m) indices → All (λ q. q < m) (q ∷ indices)
tail_below m q indices h rest zero d l = h
tail_below m q indices h rest (suc k) d l = rest k d (omega arith)

pub all_below : (m : ℕ) (indices : List ℕ) → greatest indices < m → All (λ q. q < m) indices
all_below m [] h = λ k d l. absurd (omega arith)
all_below m (q ∷ indices) h = tail_below m q indices (omega arith) (all_below m indices (omega arith))

-- ---- the distinct indices

-- an ascending list of just the numbers of another
pub distinct_is : (indices xs : List ℕ) → IsRising 0 xs → ((j : ℕ) → is_among xs j ≡ is_among indices j) → xs
    ≡ distinct indices
unfolding distinct
distinct_is indices xs up same =
    filter_is (is_among indices) 0 (suc (greatest indices)) xs (record {
      rising = up;
      sound = λ j h. let there : is_among indices j ≡ true = sym (same j) ∙ h in
          (omega (arith, highest indices j there), there);
      complete = λ j low high c. same j ∙ c;
    })

-- where all indices are leaves, they are the covered ones
pub distinct_from : (s : Shape) (indices : List ℕ) → All (λ q. q < greatest (heights s)) indices →
    covered_at s indices 0 ≡ distinct indices
distinct_from s indices below =
    distinct_is indices (covered_at s indices 0) (rising_filter (is_covered s indices 0) 0 (layer_len s 0)) (λ j.
    both_ways (is_among (covered_at s indices 0) j) (is_among indices j)
    (λ h. sym (covered_leaf s indices j) ∙ listed_covered s indices 0 j h)
    (λ c.
    listed_there (is_covered s indices 0) 0 (layer_len s 0) j (covered_leaf s indices j ∙ c) (omega arith)
    (omega (
      arith,
      listed_below (greatest (heights s)) indices j below c,
      raw_start s,
      padded_ge (raw_len s 0) s.arity,
    ))))

-- the distinct indices are the slots below each bound of them
pub distinct_below : (m : ℕ) (indices : List ℕ) → greatest indices < m → distinct indices ≡ slots_below m indices
unfolding distinct
distinct_below m indices h =
    filter_is (is_among indices) 0 m (distinct indices) (record {
      rising = rising_filter (is_among indices) 0 (suc (greatest indices));
      sound = λ j is. let c = listed_in (is_among indices) 0 (suc (greatest indices)) j is in (omega (arith, c.1), c.2);
      complete = λ j low high c. listed_there (is_among indices) 0 (suc (greatest indices)) j c (omega arith)
          (omega (arith, highest indices j c));
    })

pub distinct_rising : (indices : List ℕ) → IsRising 0 (distinct indices)
unfolding distinct
distinct_rising indices = rising_filter (is_among indices) 0 (suc (greatest indices))

distinct_lists : (indices : List ℕ) (j : ℕ) → is_among (distinct indices) j ≡ is_among indices j
unfolding distinct
distinct_lists indices j = grind (arith, common_steps, is_among, listed_in, listed_there, highest)

pub distinct_bounded : (m : ℕ) (indices : List ℕ) → All (λ q. q < m) indices → All (λ q. q < m) (distinct indices)
distinct_bounded m indices below k d h =
    listed_below m indices (get_or (distinct indices) k d) below
    (sym (distinct_lists indices (get_or (distinct indices) k d)) ∙ listed_at (distinct indices) k d h)

-- the same indices in another order
distinct_moved : (indices moved : List ℕ) → IsPermutation indices moved → distinct moved ≡ distinct indices
distinct_moved indices moved p =
    distinct_is indices (distinct moved) (distinct_rising moved) (λ j. distinct_lists moved j
    ∙ sym (list_any-IsPermutation (λ q. eqb q j) indices moved p))

-- ascending, with repeats dropped
distinct_once : (xs : List ℕ) → IsAscending xs → dedup eqb xs ≡ distinct xs
distinct_once xs up = distinct_is xs (dedup eqb xs) (rising_once xs up) (listed_dedup xs)

-- what a sort and the dropping of repeats leave
pub sorted_leaves : (indices sorted : List ℕ) → IsPermutation indices sorted → IsSorted nat_cmp sorted →
    dedup eqb sorted ≡ distinct indices
sorted_leaves indices sorted moved up =
    distinct_once sorted (λ i j h k. IsNonDecreasingBy-from_sort (λ x. x) sorted up i j 0 h k)
    ∙ distinct_moved indices sorted moved

-- no sort by a first key and a second puts a lower first key after a higher one
first_key : (o p : Ordering) → is_lt (ordering_then o p) ≡ false → is_lt o ≡ false
first_key Less p h = h
first_key Equal p h = refl
first_key Greater p h = refl

-- what a sort of indices with their places leaves of the indices
pub sorted_by_index : (indices : List ℕ) (queries sorted : List (ℕ × ℕ)) → map (λ q. q.0) queries ≡ indices →
    IsPermutation queries sorted → IsSorted (λ x y. ordering_then (nat_cmp x.0 y.0) (nat_cmp x.1 y.1)) sorted →
    dedup eqb (map (λ q. q.0) sorted) ≡ distinct indices
sorted_by_index indices queries sorted is moved up =
    let own = map (λ (q : ℕ × ℕ). q.0) sorted in
    let by_key = IsNonDecreasingBy-from_sort (λ (q : ℕ × ℕ). q.0) sorted
    (λ k d low high. first_key (nat_cmp (get_or sorted (k + 1) d).0 (get_or sorted k d).0)
    (nat_cmp (get_or sorted (k + 1) d).1 (get_or sorted k d).1) (up k d low high)) in
    let ascending : IsAscending own =
    λ i j h k. let low : j < length sorted = omega (arith, length-map sorted (λ (q : ℕ × ℕ). q.0)) in
    rw (
      get_or-map (λ (q : ℕ × ℕ). q.0) sorted i (0, 0) 0 (omega arith),
      get_or-map (λ (q : ℕ × ℕ). q.0) sorted j (0, 0) 0 low,
    ) (by_key i j (0, 0) h low) in
    distinct_once own ascending
    ∙ distinct_moved indices own (rw (← is) (IsPermutation-map (λ (q : ℕ × ℕ). q.0) queries sorted moved))

pub rising_order : (a : ℕ) (xs : List ℕ) → IsRising a xs → (i j : ℕ) → i < j → j < length xs →
    get_or xs i 0 < get_or xs j 0
rising_order a [] r i j h l = absurd (omega arith)
rising_order a (x ∷ xs) r zero zero h l = absurd (omega arith)
rising_order a (x ∷ xs) r (suc i) zero h l = absurd (omega arith)
rising_order a (x ∷ xs) r zero (suc j) h l = listed_from (suc x) xs (get_or xs j 0) r.1 (listed_at xs j 0 (omega arith))
rising_order a (x ∷ xs) r (suc i) (suc j) h l = rising_order (suc x) xs r.1 i j (omega arith) (omega arith)

-- ---- places

listed_place : (xs : List ℕ) (j : ℕ) → is_among xs j ≡ true → (k : ℕ) × (k < length xs) × (get_or xs k 0 ≡ j)
listed_place [] j h = absurd (true≢false (sym h))
listed_place (x ∷ xs) j h =
    elim (or_cases (eqb x j) (is_among xs j) h) [
      | inl e ↦ (0, omega arith, eqb-true x j e)
      | inr rest ↦ let k = listed_place xs j rest in (suc k.0, omega (arith, k.1), k.2)
    ]

-- before place k of the numbers from a on that pass there are k of them
abbrev PlaceIs : (ℕ → Bool) → ℕ → ℕ → List ℕ → Type 0
PlaceIs p a n xs = (k d : ℕ) → k < length xs → get_or xs k 0 ≡ a + d → length (filter p (range_with_len a d)) ≡ k

place_at : (p : ℕ → Bool) (a n : ℕ) → p a ≡ true → PlaceIs p (a + 1) n (filter p (range_with_len (a + 1) n)) →
    PlaceIs p a n (a ∷ filter p (range_with_len (a + 1) n))
place_at p a n t ih zero zero l e = refl
place_at p a n t ih zero (suc d) l e = absurd (omega arith)
place_at p a n t ih (suc k) zero l e =
    let xs = filter p (range_with_len (a + 1) n) in
    absurd (omega (arith, (listed_in p (a + 1) n (get_or xs k 0) (listed_at xs k 0 (omega arith))).0))
place_at p a n t ih (suc k) (suc d) l e = rw t (ap suc (ih k d (omega arith) (omega arith)))

place_past : (p : ℕ → Bool) (a n : ℕ) → p a ≡ false → PlaceIs p (a + 1) n (filter p (range_with_len (a + 1) n)) →
    PlaceIs p a n (filter p (range_with_len (a + 1) n))
place_past p a n f ih k zero l e =
    let xs = filter p (range_with_len (a + 1) n) in
    absurd (omega (arith, (listed_in p (a + 1) n (get_or xs k 0) (listed_at xs k 0 l)).0))
place_past p a n f ih k (suc d) l e = rw f (ih k d l (omega arith))

pub place_is : (p : ℕ → Bool) (a n : ℕ) → PlaceIs p a n (filter p (range_with_len a n))
place_is p a zero = λ k d l e. absurd (omega arith)
place_is p a (suc n) = grind (arith, common_steps, place_is p (a + 1) n, cases_Bool, place_at, place_past)

-- ---- the slot of an index

pub found_at : (indices : List ℕ) (i k : ℕ) → k < length (distinct indices) → get_or (distinct indices) k 0 ≡ i →
    IsSlot indices i k
unfolding distinct
found_at indices i k l e =
    record {
      slot = sym (place_is (is_among indices) 0 (suc (greatest indices)) k i l (omega arith));
      place = l;
      there = e;
    }

-- an index that is queried has a slot
pub some_place : (indices : List ℕ) (i : ℕ) → is_among indices i ≡ true → (k : ℕ) × (k < length (distinct indices)) ×
    (get_or (distinct indices) k 0 ≡ i)
unfolding distinct
some_place indices i c = grind (arith, common_steps, listed_there, highest, listed_place)

pub ascending_from : (xs : List ℕ) → IsRising 0 xs → IsAscending xs
ascending_from xs up i j h l =
    elim (cases_lt i j) [
      | inl less ↦ omega (arith, rising_order 0 xs up i j less l)
      | inr rest ↦ let e : i ≡ j = omega arith in rw e (omega arith)
    ]

pub rising_either : (indices : List ℕ) → IsAscending (distinct indices)
rising_either indices = ascending_from (distinct indices) (distinct_rising indices)

pub queried_at : (indices : List ℕ) (k : ℕ) → k < length indices → is_among indices (get_or indices k 0) ≡ true
queried_at indices k h = listed_at indices k 0 h

-- ---- from layer to layer

pub divided : (xs : List ℕ) (n : ℕ) → 0 < n → IsAscending xs → IsAscending (map (λ j. j / n) xs)
divided xs n some up i j h k =
    let low : j < length xs = omega (arith, length-map xs (λ j. j / n)) in
    let read = get_or-map (λ j. j / n) xs in
    rw (read i 0 0 (omega arith), read j 0 0 low) (div_mono n (get_or xs i 0) (get_or xs j 0) some (up i j h low))

-- the parents of ascending nodes, with repeats dropped
pub parents_once : (nodes : List ℕ) (n : ℕ) → 0 < n → IsAscending nodes → dedup eqb (map (λ j. j / n) nodes)
    ≡ distinct (map (λ j. j / n) nodes)
parents_once nodes n some up = distinct_once (map (λ j. j / n) nodes) (divided nodes n some up)

-- ---- the first query of each

same_mapped : (f g : ℕ → ℕ) (a : ℕ) (xs : List ℕ) → IsRising a xs → ((i : ℕ) → a ≤ i → f i ≡ g i) → map f xs ≡ map g xs
same_mapped f g a [] r h = refl
same_mapped f g a (x ∷ xs) r h = rw (h x r.0, same_mapped f g (suc x) xs r.1 (λ i l. h i (omega (arith, r.0)))) refl

-- a change of a function at one number changes its values on an ascending list at one place
set_mapped : (f g : ℕ → ℕ) (a : ℕ) (xs : List ℕ) (k : ℕ) → IsRising a xs → k < length xs →
    ((i : ℕ) → i ≢ get_or xs k 0 → f i ≡ g i) → set (map f xs) k (g (get_or xs k 0)) ≡ map g xs
set_mapped f g a [] k r l h = absurd (omega arith)
set_mapped f g a (x ∷ xs) zero r l h =
    ap (λ ys. g x ∷ ys) (same_mapped f g (suc x) xs r.1 (λ i l. h i (λ e. omega arith)))
set_mapped f g a (x ∷ xs) (suc k) r l h =
    let above = listed_from (suc x) xs (get_or xs k 0) r.1 (listed_at xs k 0 (omega arith)) in
    rw (h x (λ e. omega arith), set_mapped f g (suc x) xs k r.1 (omega arith) h) refl

-- the first query of index i among those from place n on
abbrev pub first_from : List ℕ → ℕ → ℕ → ℕ
first_from indices n i = n + first_query (drop n indices) i

first_end : (n : ℕ) (indices : List ℕ) (i : ℕ) → length indices ≤ n → first_from indices n i ≡ n
first_end n indices i h = rw (drop_all n indices h) (omega arith)

pub firsts_start : (n : ℕ) (indices xs : List ℕ) → length indices ≤ n → replicate (length xs) n
    ≡ map (first_from indices n) xs
firsts_start n indices [] h = refl
firsts_start n indices (x ∷ xs) h = rw (first_end n indices x h, firsts_start n indices xs h) refl

first_here : (q : ℕ) (qs : List ℕ) (n i : ℕ) → q ≡ i → n + first_query (q ∷ qs) i ≡ n
first_here q qs n i e = rw (eq-eqb q i e) (omega arith)

first_past : (q : ℕ) (qs : List ℕ) (n i : ℕ) → i ≢ q → suc n + first_query qs i ≡ n + first_query (q ∷ qs) i
first_past q qs n i e = rw (ne_eqb q i (λ z. e (sym z))) (omega arith)

pub firsts_more : (indices : List ℕ) (n k : ℕ) → n < length indices → IsSlot indices (get_or indices n 0) k →
    set (map (first_from indices (suc n)) (distinct indices)) k n ≡ map (first_from indices n) (distinct indices)
firsts_more indices n k l w =
    let q = get_or indices n 0 in
    let cut : drop n indices ≡ q ∷ drop (suc n) indices = drop-cons indices n 0 l in
    let xs = distinct indices in
    let here : first_from indices n (get_or xs k 0)
    ≡ n = rw (w.there, cut) (first_here q (drop (suc n) indices) n q refl) in
    ap (λ v. set (map (first_from indices (suc n)) xs) k v) (sym here)
    ∙ set_mapped (first_from indices (suc n)) (first_from indices n) 0 xs k (distinct_rising indices) w.place
    (λ i e. rw cut (first_past q (drop (suc n) indices) n i (λ z. e (z ∙ sym w.there))))

pub firsts_turn : (firsts indices : List ℕ) (n q k : ℕ) → q ≡ suc n → q ≤ length indices → firsts
    ≡ map (first_from indices q) (distinct indices) → IsSlot indices (get_or indices n 0) k →
    set firsts k n ≡ map (first_from indices n) (distinct indices)
firsts_turn firsts indices n q k e l is w = rw (is, e) (firsts_more indices n k (omega arith) w)

-- ---- the rows of the first query

pub record IsFirst {T : Type 0} (indices : List ℕ) (sets : List (List (List T))) (i : ℕ) : Type 0 where
  pub place : first_query indices i < length indices
  pub rows : get_or sets (first_query indices i) [] ≡ rows_of (opened_of indices sets) i

pub first_of_index : {T : Type 0} (indices : List ℕ) (sets : List (List (List T))) (i : ℕ) → length indices
    ≡ length sets → is_among indices i ≡ true → IsFirst indices sets i
first_of_index [] sets i e c = absurd (true≢false (sym c))
first_of_index (q ∷ indices) [] i e c = absurd (omega arith)
first_of_index (q ∷ indices) (r ∷ sets) i e c =
    elim (cases_Bool (eqb q i)) [
      | inl t ↦ record { place = rw t (omega arith); rows = rw t refl }
      | inr f ↦ let rest = first_of_index indices sets i (omega arith) (rw f at c) in
          record { place = rw f (omega (arith, rest.place)); rows = rw f rest.rows }
    ]

-- what is known of a slot: its first query, and that query's rows
pub record IsAtSlot {T : Type 0} (firsts indices : List ℕ) (sets : List (List (List T))) (i k : ℕ) : Type 0 where
  pub inside : k < length firsts
  pub place : get_or firsts k 0 < length sets
  pub rows : get_or sets (get_or firsts k 0) [] ≡ rows_of (opened_of indices sets) i

pub at_slot : {T : Type 0} (firsts indices : List ℕ) (sets : List (List (List T))) (i k : ℕ) → firsts
    ≡ map (first_query indices) (distinct indices) → length indices ≡ length sets →
    is_among indices i ≡ true → IsSlot indices i k → IsAtSlot firsts indices sets i k
at_slot firsts indices sets i k is e c w =
    let f = first_of_index indices sets i e c in
    let there : get_or firsts k 0
    ≡ first_query indices i =
    rw (← is, w.there) at (get_or-map (first_query indices) (distinct indices) k 0 0 w.place) in
    record {
      inside = omega (arith, w.place, ap length is, length-map (distinct indices) (first_query indices));
      place = omega (arith, f.place, there);
      rows = rw there f.rows;
    }

-- ---- repeats

-- a query whose row set is not that of the first query of its index
abbrev pub repeat_fault : {T : Type 0} → (T → T → Bool) → PrunedOpening T ℕ → ℕ × List (List T) → Option MerkleTreeError
repeat_fault row_eq p = λ (i, rows). unless (pointwise (pointwise row_eq) rows (rows_of p i))
    (MalformedPrunedProof (InconsistentDuplicateOpenings (slot_of p.indices i)))

pub repeats_next : {T : Type 0} (row_eq : T → T → Bool) (firsts indices : List ℕ) (sets : List (List (List T)))
    (n k : ℕ) → firsts ≡ map (first_query indices) (distinct indices) → length indices ≡ length sets →
    n < length indices → IsSlot indices (get_or indices n 0) k →
    first_of (repeat_fault row_eq (opened_of indices sets)) (zip (drop n indices) (drop n sets))
    ≡ option_or (unless (pointwise (pointwise row_eq) (get_or sets n []) (get_or sets (get_or firsts k 0) []))
    (MalformedPrunedProof (InconsistentDuplicateOpenings k)))
    (first_of (repeat_fault row_eq (opened_of indices sets)) (zip (drop (n + 1) indices) (drop (n + 1) sets)))
repeats_next row_eq firsts indices sets n k is e h w =
    grind (arith, common_steps, drop-cons, add-one, queried_at, at_slot)

-- one turn over the queries
pub record IsRepeatTurn {T : Type 0} (row_eq : T → T → Bool) (indices : List ℕ) (sets : List (List (List T)))
    (total : Option MerkleTreeError) (n k : ℕ) (differ : Bool) : Type 0 where
  pub kept : differ ≡ false →
      first_of (repeat_fault row_eq (opened_of indices sets)) (zip (drop (n + 1) indices) (drop (n + 1) sets)) ≡ total
  pub found : differ ≡ true → total ≡ Some (MalformedPrunedProof (InconsistentDuplicateOpenings k))

-- a query has its own row set
pub own_set : {T : Type 0} (row_eq : T → T → Bool) → IsEquivalence row_eq → (sets : List (List (List T))) (n f : ℕ) →
    n ≡ f → pointwise (pointwise row_eq) (get_or sets n []) (get_or sets f []) ≡ true
own_set row_eq laws sets n f e = grind (arith, common_steps, lists_equiv)

pub repeat_turn : {T : Type 0} (row_eq : T → T → Bool) (firsts indices : List ℕ) (sets : List (List (List T)))
    (total : Option MerkleTreeError) (n k f : ℕ) (differ : Bool) →
    firsts ≡ map (first_query indices) (distinct indices) → length indices ≡ length sets → n < length indices →
    IsSlot indices (get_or indices n 0) k → f ≡ get_or firsts k f → differ
    ≡ not (pointwise (pointwise row_eq) (get_or sets n []) (get_or sets f [])) →
    first_of (repeat_fault row_eq (opened_of indices sets)) (zip (drop n indices) (drop n sets)) ≡ total →
    IsRepeatTurn row_eq indices sets total n k differ
repeat_turn row_eq firsts indices sets total n k f differ is long h w is_first is_differ so_far =
    let at = at_slot firsts indices sets (get_or indices n 0) k is long (queried_at indices n h) w in
    let first : f ≡ get_or firsts k 0 = is_first ∙ get_or_default firsts k f 0 at.inside in
    let b = pointwise (pointwise row_eq) (get_or sets n []) (get_or sets (get_or firsts k 0) []) in
    let next = repeats_next row_eq firsts indices sets n k is long h w in
    let told : differ ≡ not b = is_differ
    ∙ ap (λ j. not (pointwise (pointwise row_eq) (get_or sets n []) (get_or sets j []))) first in
    elim (cases_Bool b) [
      | inl t ↦ record {
        kept = λ d. sym (rw t at next) ∙ so_far;
        found = λ d. absurd (true≢false (sym d ∙ told ∙ ap not t));
      }
      | inr t ↦ record {
        kept = λ d. absurd (true≢false (sym (sym d ∙ told ∙ ap not t)));
        found = λ d. sym so_far
            ∙ rw t at next;
      }
    ]

pub first_place : (indices : List ℕ) (i : ℕ) → is_among indices i ≡ true → first_query indices i < length indices
first_place [] i c = absurd (true≢false (sym c))
first_place (q ∷ indices) i c =
    elim (cases_Bool (eqb q i)) [
      | inl t ↦ rw t (omega arith)
      | inr f ↦ rw f (omega (arith, first_place indices i (rw f at c)))
    ]

-- the first query of a slot, as the code reads it, is a query
pub first_inside : (firsts indices : List ℕ) (i k f : ℕ) → firsts ≡ map (first_query indices) (distinct indices) →
    is_among indices i ≡ true → IsSlot indices i k → f ≡ get_or firsts k f → f < length indices
first_inside firsts indices i k f is c w e =
    grind (arith, common_steps, get_or-map, get_or_default, length-map, first_place)

pub distinct_queried : (indices : List ℕ) (k : ℕ) → k < length (distinct indices) →
    is_among indices (get_or (distinct indices) k 0) ≡ true
unfolding distinct
distinct_queried indices k h =
    (listed_in (is_among indices) 0 (suc (greatest indices)) (get_or (distinct indices) k 0)
    (listed_at (distinct indices) k 0 h)).2
