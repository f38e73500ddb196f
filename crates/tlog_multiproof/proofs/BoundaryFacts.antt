-- The boundary of some entries, sibling by sibling.
use Rattle.std.proofs.Common.{◌≡◌, ℕ, suc, ◌+◌, ◌*◌, ◌/◌, ◌%◌, ◌<◌, Bool, true, false, not, List, [], ◌∷◌, ◌++◌, map}
use Rattle.std.proofs.Common.{filter, ap, sym, ◌∙◌, arith, length, take, get_or, append_assoc, eqb, eq-eqb, inl, inr}
use Rattle.std.proofs.lemmas.Bool.{cases_Bool, cases_eq, cases_lt, eqb-true, false_from_ne_true, or_left, or_right}
use Rattle.std.proofs.lemmas.Bool.{true≢false}
use Rattle.std.proofs.lemmas.List.{map-append, take_more, get_or_default}
use Rattle.std.proofs.lemmas.List.Elements.{filter-append}
use Rattle.std.proofs.lemmas.List.Folds.{Any-from_list_any}
use Rattle.std.proofs.lemmas.List.Sorted.{searched}
use Rattle.std.specs.Prelude.{Result, Ok, Err}
use Rattle.std.specs.Result.{is_err}
use Rattle.std.specs.List.Sorted.{IsBinarySearchResult}
use Rattle.std.specs.Ordering.{nat_cmp}
use Rattle.p3_support.specs.Lists.{is_among}
use Rattle.p3_merkle_core.specs.Inner.Agreement.{IsAscending}
use Rattle.p3_merkle_core.proofs.Lists.RisingFacts.{IsRising, listed_at, rising_lower}
use Rattle.tlog_multiproof.specs.Inner.Siblings.{sibling}

-- ---- what a binary search finds

pub found_among : (xs : List ℕ) (x : ℕ) (r : Result ℕ ℕ) → IsAscending xs →
    IsBinarySearchResult (λ y. nat_cmp y x) xs r → is_err r ≡ false → not (is_among xs x) ≡ false
found_among xs x (Ok i) up h f =
    let found = searched xs x (Ok i) h up in
    ap not (ap (is_among xs) (sym found.1) ∙ listed_at xs i 0 found.0)
found_among xs x (Err i) up h f = absurd cc

pub missed_among : (xs : List ℕ) (x : ℕ) (r : Result ℕ ℕ) → IsAscending xs →
    IsBinarySearchResult (λ y. nat_cmp y x) xs r → is_err r ≡ true → not (is_among xs x) ≡ true
missed_among xs x (Ok i) up h t = absurd cc
missed_among xs x (Err i) up h t =
    let missed = searched xs x (Err i) h up in
    ap not (false_from_ne_true (is_among xs x) (λ t.
    let q = Any-from_list_any (λ y. eqb y x) xs t in
    let is : get_or xs q.0 0 ≡ x = eqb-true (get_or xs q.0 0) x
    (ap (λ y. eqb y x) (get_or_default xs q.0 0 q.1 q.2 ∙ q.3) ∙ q.4) in
    elim (cases_lt q.0 i) [
      | inl less ↦ let l = missed.1 q.0 less in absurd (omega arith)
      | inr more ↦ let l = missed.2 q.0 more q.2 in absurd (omega arith)
    ]))

-- ---- sibling by sibling

-- one node more
pub node_more : {X : Type 0} (f : ℕ → X) (p : ℕ → Bool) (g : ℕ → ℕ) (xs : List ℕ) (i : ℕ) (old so_far new : List X) →
    i < length xs → so_far ≡ old ++ map f (filter p (map g (take i xs))) →
    new ≡ so_far ++ map f (filter p (g (get_or xs i 0) ∷ [])) →
    new ≡ old ++ map f (filter p (map g (take (i + 1) xs)))
node_more f p g xs i old so_far new h is more =
    let front = map g (take i xs) in
    let last = g (get_or xs i 0) ∷ [] in
    more ∙ ap (λ ys. ys ++ map f (filter p last)) is
    ∙ append_assoc old (map f (filter p front)) (map f (filter p last))
    ∙ ap (λ ys. old ++ ys) (sym (map-append f (filter p front) (filter p last))
    ∙ ap (map f) (sym (filter-append p front last)))
    ∙ ap (λ ys. old ++ map f (filter p ys))
    (sym (ap (map g) (take_more xs i 0 h) ∙ map-append g (take i xs) (get_or xs i 0 ∷ [])))

-- ---- siblings ascend

-- ascending numbers without their least bound
rising_past : (a : ℕ) (xs : List ℕ) → IsRising a xs → is_among xs a ≡ false → IsRising (suc a) xs
rising_past a [] r missed = tt
rising_past a (x ∷ xs) r missed =
    elim (cases_eq x a) [
      | inl e ↦ absurd (true≢false (sym (or_left (eqb x a) (is_among xs a) (eq-eqb x a e)) ∙ missed))
      | inr ne ↦ (omega (arith, r.0), r.1)
    ]

-- the siblings of ascending numbers that are not among them ascend
pub siblings_rise : (here : List ℕ) (h : ℕ) (xs : List ℕ) →
    ((j : ℕ) → is_among xs j ≡ true → is_among here j ≡ true) → IsRising (2 * h) xs →
    IsRising (2 * h) (filter (λ j. not (is_among here j)) (map sibling xs))
siblings_rise here h [] within r = tt
siblings_rise here h (x ∷ xs) within r =
    let k = sibling x in
    let inside = λ (j : ℕ) (l : is_among xs j ≡ true). within j (or_right (eqb x j) (is_among xs j) l) in
    elim (cases_Bool (is_among here k)) [
      | inl t ↦ rw t (siblings_rise here h xs inside (rising_lower (2 * h) (suc x) xs (omega (arith, r.0)) r.1))
      | inr f ↦
          let past : IsRising (2 * (x / 2 + 1)) xs =
          elim (cases_eq (x % 2) 0) [
            | inl even ↦
                let next : suc x ≡ k = omega arith in
                let no : is_among xs (suc x) ≡ false =
                false_from_ne_true (is_among xs (suc x)) (λ l.
                true≢false (sym (rw next at (inside (suc x) l)) ∙ f)) in
                rising_lower (2 * (x / 2 + 1)) (suc (suc x)) xs (omega arith) (rising_past (suc x) xs r.1 no)
            | inr odd ↦ rising_lower (2 * (x / 2 + 1)) (suc x) xs (omega arith) r.1
          ] in
          rw f (
            omega (arith, r.0),
            rising_lower (suc k) (2 * (x / 2 + 1)) _ (omega arith) (siblings_rise here (x / 2 + 1) xs inside past),
          )
    ]
