-- The wanted entries: those that have ended stand at their places, the others follow in the order of the file.
use Rattle.std.proofs.Common.{zero, if◌then◌else◌, slice_get, ext_get_or, get_or-set_other, get_or-set_same, length-set}
use Rattle.std.proofs.Common.{Bool, true, false, List, ◌++◌, length, drop, get_or, arith, subst, nat_lt, le-ltb, lt-ltb}
use Rattle.std.proofs.Common.{◌≡◌, ℕ, suc, ◌+◌, ◌<◌, ◌≤◌, [], ◌∷◌, map, set, refl, sym, ap, ◌∙◌, inl, inr, Some}
use Rattle.std.specs.List.{list_all, range_with_len, Contains}
use Rattle.std.specs.List.Sorted.{IsPermutation, IsSorted}
use Rattle.std.specs.Ordering.{nat_cmp, is_lt, ordering_then}
use Rattle.std.specs.declared.cmp.Ordering.{Ordering}
use Rattle.std.specs.declared.cmp.Ordering.TheVariants.{Less, Equal, Greater}
use Rattle.std.proofs.lemmas.Bool.{cases_eq}
use Rattle.std.proofs.lemmas.List.{get_or-map, get_or_default, length-map}
use Rattle.std.proofs.lemmas.List.Folds.{list_all_at}
use Rattle.std.proofs.lemmas.List.Sums.{list_all-from_AllPass}
use Rattle.std.proofs.lemmas.List.Sorted.{length_permutation, All-permutation, Contains-permutation}
use Rattle.std.proofs.lemmas.List.Sorted.{IsNonDecreasingBy-from_sort}
use Rattle.std.proofs.lemmas.List.Elements.{All-head, All-tail}
use Rattle.std.proofs.lemmas.List.FromFn.{get_or-map-range_with_len, length-map-range_with_len, map-range_with_len_more}
use Rattle.tlog_files.specs.Entries.{entry_at, wanted_of}
use Rattle.tlog_files.specs.declared.wanted.WantedEntries.{WantedEntries}
use Rattle.tlog_files.specs.Inner.Wanted.{IsOwn, place_of, places_of, HoldsWanted, IsAscending, IsCopied, IsKept}

-- ---- sorted places

-- one more place
pub one_more_place : (wanted : List ℕ) (k : ℕ) (places : List (ℕ × ℕ)) (index : ℕ) → index ≡ get_or wanted k 0 →
    places ≡ map (place_of wanted) (range_with_len 0 k) →
    places ++ (index, k) ∷ [] ≡ map (place_of wanted) (range_with_len 0 (k + 1))
one_more_place wanted k places index is so_far =
    ap (λ (ps : List (ℕ × ℕ)). ps ++ (index, k) ∷ []) so_far
    ∙ ap (λ (i : ℕ). map (place_of wanted) (range_with_len 0 k) ++ (i, k) ∷ []) is
    ∙ sym (map-range_with_len_more (place_of wanted) 0 k k (omega arith))

-- no sort by a first key and a second puts a lower first key after a higher one
first_key : (o p : Ordering) → is_lt (ordering_then o p) ≡ false → is_lt o ≡ false
first_key Less p h = h
first_key Equal p h = refl
first_key Greater p h = refl

ascending_from : (n : ℕ) (ps : List (ℕ × ℕ)) → ((d : ℕ × ℕ) → 0 < length ps → n ≤ (get_or ps 0 d).0) →
    ((i j : ℕ) (d : ℕ × ℕ) → i ≤ j → j < length ps → (get_or ps i d).0 ≤ (get_or ps j d).0) → IsAscending n ps
ascending_from n [] low up = tt
ascending_from n (p ∷ ps) low up = (
  low p (omega arith),
  ascending_from p.0 ps (λ d h. up zero (suc zero) d (omega arith) (omega arith))
      (λ i j d h k. up (suc i) (suc j) d (omega arith) (omega arith)),
)

-- a sort leaves the indices in the order of the file
pub sorted_ascends : (sorted : List (ℕ × ℕ)) →
    IsSorted (λ x y. ordering_then (nat_cmp x.0 y.0) (nat_cmp x.1 y.1)) sorted → IsAscending 0 sorted
sorted_ascends sorted up =
    ascending_from 0 sorted (λ d h. omega arith)
    (IsNonDecreasingBy-from_sort (λ (p : ℕ × ℕ). p.0) sorted
    (λ k d low high. first_key (nat_cmp (get_or sorted (k + 1) d).0 (get_or sorted k d).0)
    (nat_cmp (get_or sorted (k + 1) d).1 (get_or sorted k d).1) (up k d low high)))

place_at : (wanted : List ℕ) (k : ℕ) (d : ℕ × ℕ) → k < length wanted → get_or (places_of wanted) k d ≡ place_of wanted k
place_at wanted k d h = get_or-map-range_with_len (place_of wanted) 0 (length wanted) k k d h (omega arith)

-- ---- at the start

pub kept_at_start : (wanted : List ℕ) (entries : List (List ℕ)) (left : List (ℕ × ℕ)) →
    IsPermutation (places_of wanted) left → length entries ≡ length left → IsKept wanted [] entries left
kept_at_start wanted entries left moved long =
    let count = length-map-range_with_len (place_of wanted) 0 (length wanted) in
    record {
      own = All-permutation (IsOwn wanted) (places_of wanted) left moved (λ k d h.
          let inside : k < length wanted = omega (arith, h, count) in
          subst (IsOwn wanted) (sym (place_at wanted k d inside)) (inside, refl));
      long = long ∙ length_permutation (places_of wanted) left moved ∙ count;
      each = λ place h. inl (Contains-permutation (places_of wanted) left (place_of wanted place) moved
          (place, omega (arith, h, count), place_at wanted place (place_of wanted place) h));
    }

-- no bytes have come of the open entry
pub none_begun : (b : Bool) → ◌≡◌ {A = List ℕ} (if b then [] else []) []
none_begun true = refl
none_begun false = refl

-- ---- the next one is copied

pub kept_copy : (wanted : List ℕ) (ended entries : List (List ℕ)) (p : ℕ × ℕ) (left : List (ℕ × ℕ)) (copy : List ℕ) →
    p.0 < length ended → copy ≡ entry_at ended p.0 → IsKept wanted ended entries (p ∷ left) →
    IsKept wanted ended (set entries p.1 copy) left
kept_copy wanted ended entries p left copy within is kept =
    let (inside, index) = All-head (IsOwn wanted) p left kept.own in
    record {
      own = All-tail (IsOwn wanted) p left kept.own;
      long = length-set entries p.1 copy ∙ kept.long;
      each = λ place h. elim (cases_eq place p.1) [
        | inl same ↦ inr (record {
          within = omega (arith, within, ap (λ k. get_or wanted k 0) same, index);
          is = ap (λ k. entry_at (set entries p.1 copy) k) same
              ∙ get_or-set_same entries p.1 copy [] (omega (arith, inside, kept.long))
              ∙ is ∙ ap (entry_at ended) (index ∙ sym (ap (λ k. get_or wanted k 0) same));
        })
        | inr apart ↦ elim (kept.each place h) [
          | inl waits ↦ inl (among waits apart)
          | inr copied ↦ inr (record {
            within = copied.within;
            is = get_or-set_other entries p.1 place copy [] apart ∙ copied.is;
          })
        ]
      ];
    }
  where
    among : {place : ℕ} → Contains (p ∷ left) (place_of wanted place) → (place ≡ p.1 → ⊥) →
        Contains left (place_of wanted place)
    among (zero, within, same) apart = absurd (apart (sym (ap (λ (q : ℕ × ℕ). q.1) same)))
    among (suc k, within, same) apart = (k, omega (arith, within), same)

pub next_left : (left rest : List (ℕ × ℕ)) (p : ℕ × ℕ) → Some p ≡ slice_get left 0 → rest ≡ drop 1 left →
    left ≡ p ∷ rest
next_left [] rest p is follow = cc
next_left (q ∷ left) rest p is follow = cc

pub ascends_lower : (m n : ℕ) (ps : List (ℕ × ℕ)) → m ≤ n → IsAscending n ps → IsAscending m ps
ascends_lower m n [] low up = tt
ascends_lower m n (p ∷ ps) low up = (omega (arith, up.0), up.1)

-- what a copy keeps, as the next entries are walked over
pub record HoldsSome (w : WantedEntries) (wanted : List ℕ) (first : ℕ) (ended : List (List ℕ)) : Type 0 where
  pub kept : IsKept wanted ended (map (λ entry. entry.items) w.entries.items) w.left.now
  pub ascending : IsAscending first w.left.now
  pub begun : w.begun.items ≡ []

-- ---- all of them

pub all_wanted : (w : WantedEntries) (wanted : List ℕ) (ended : List (List ℕ)) (bytes : List ℕ) →
    length w.left.now ≡ 0 → HoldsWanted w wanted ended bytes →
    map (λ entry. entry.items) w.entries.items ≡ wanted_of ended wanted
all_wanted w wanted ended bytes none holds =
    let E = map (λ entry. entry.items) w.entries.items in
    let each = λ (k : ℕ) (h : k < length wanted).
    elim (holds.kept.each k h) as (λ _. IsCopied wanted ended E k) [
      | inl (at, within, is) ↦ absurd (omega (arith, within, none))
      | inr copied ↦ copied
    ] in
    let there : list_all (λ index. nat_lt index (length ended)) wanted ≡ true =
    list_all-from_AllPass (λ index. nat_lt index (length ended)) wanted
    (λ k d h. lt-ltb (get_or wanted k d) (length ended)
    (subst (λ i. i < length ended) (get_or_default wanted k 0 d h) ((each k h).within))) in
    ext_get_or [] E (map (entry_at ended) wanted) (holds.kept.long ∙ sym (length-map wanted (entry_at ended)))
    (λ k h.
    let inside : k < length wanted = omega (arith, holds.kept.long, h) in
    (each k inside).is ∙ sym (get_or-map (entry_at ended) wanted k 0 [] inside))
    ∙ sym (ap (λ b. if b then map (entry_at ended) wanted else []) there)

pub one_missing : (ended : List (List ℕ)) (wanted : List ℕ) (entries : List (List ℕ)) (left : List (ℕ × ℕ)) →
    (length left ≡ 0 → ⊥) → IsKept wanted ended entries left → IsAscending (length ended) left →
    wanted_of ended wanted ≡ []
one_missing ended wanted entries [] some kept up = absurd (some refl)
one_missing ended wanted entries (p ∷ left) some kept up =
    let (inside, index) = All-head (IsOwn wanted) p left kept.own in
    let far = le-ltb (get_or wanted p.1 0) (length ended) (omega (arith, index, up.0)) in
    ap (λ b. if b then map (entry_at ended) wanted else [])
    (list_all_at (λ index. nat_lt index (length ended)) wanted p.1 0 inside far)
