-- The values of the children of covered nodes, as a walk over them takes them.
use Rattle.std.proofs.Common.{◌≡◌, ℕ, zero, suc, ◌+◌, ◌-◌, ◌*◌, ◌/◌, ◌%◌, ◌<◌, ◌≤◌, Bool, true, false, not, cond}
use Rattle.std.proofs.Common.{List, [], ◌∷◌, ◌++◌, refl, ap, sym, ◌∙◌, arith, inl, inr, length, filter, get_or, take}
use Rattle.std.proofs.Common.{append-nil, length-append}
use Rattle.std.proofs.Math.Nat.{mul_comm, div-lt_iff_lt-mul}
use Rattle.std.proofs.lemmas.Nat.{div-mul-add, mod-mul-add, mul-add-lt}
use Rattle.std.proofs.lemmas.Grind.{common_steps}
use Rattle.std.proofs.lemmas.Bool.{cases_Bool, cases_eq, not_from_false, false_from_ne_true}
use Rattle.std.proofs.lemmas.List.{take_more, length-take-le, take_all}
use Rattle.std.proofs.lemmas.List.Concat.{get_or-flat_map}
use Rattle.std.proofs.lemmas.List.FromFn.{length-range_with_len, get_or-range_with_len}
use Rattle.std.proofs.lemmas.List.Filters.{length-filter_both, length-filter_more}
use Rattle.std.specs.List.{range_with_len}
use Rattle.p3_merkle_core.specs.Inner.Children.{AreChildren, IsFamily, beside, children_under, unknown_count}
use Rattle.p3_support.specs.Lists.{is_among}
use Rattle.p3_merkle_core.proofs.Lists.RisingFacts.{listed_at}

-- ---- the children

pub children_length : (n : ℕ) (parents : List ℕ) → length (children_under n parents) ≡ n * length parents
children_length n [] = omega arith
children_length n (p ∷ parents) =
    grind (arith, common_steps, children_length n parents, length-append, length-range_with_len)

before : (n : ℕ) (parents : List ℕ) (i : ℕ) → i ≤ length parents → length (children_under n (take i parents)) ≡ n * i
before n parents i h = children_length n (take i parents) ∙ ap (λ k. n * k) (length-take-le i parents h)

-- the child at a place is one of the parent at the quotient
pub child_at : (n : ℕ) (parents : List ℕ) (place : ℕ) → place < n * length parents →
    get_or (children_under n parents) place 0 ≡ n * get_or parents (place / n) 0 + place % n
child_at n parents place h =
    elim (cases_eq n 0) [
      | inl z ↦ absurd (let e : n * length parents ≡ 0 = rw z (omega arith) in omega arith)
      | inr nz ↦
          let some : 0 < n = omega arith in
          let i = place / n in
          let k = place % n in
          let small : k < n = omega arith in
          let inside : i < length parents =
          (div-lt_iff_lt-mul {k = n} some).1 (omega (arith, mul_comm n (length parents))) in
          let whole : n * i + k ≡ place = omega arith in
          let group = λ (p : ℕ). range_with_len (n * p) n in
          let at = get_or-flat_map group parents i k 0 0 inside
          (omega (arith, length-range_with_len (n * get_or parents i 0) n)) in
          let place_is : length (children_under n (take i parents)) + k
          ≡ place = omega (arith, before n parents i (omega arith)) in
          rw place_is at at ∙ get_or-range_with_len (n * get_or parents i 0) n k 0 small
    ]

-- a child of some parents, and its place among their children
pub record IsPlaced (n : ℕ) (parents : List ℕ) (place child : ℕ) : Type 0 where
  pub inside : place < n * length parents
  pub child_is : child ≡ n * get_or parents (place / n) 0 + place % n

-- the place of a child of the parent at place i
pub placed_at : (n i : ℕ) (parents : List ℕ) (first child : ℕ) → first ≡ n * get_or parents i 0 → i < length parents →
    first ≤ child → child < first + n → IsPlaced n parents (n * i + (child - first)) child
placed_at n i parents first child is h above below =
    grind (arith, common_steps, mul_comm, div-mul-add, mod-mul-add, mul-add-lt)

-- ---- what stands beside

beside_none : {X : Type 0} (p : ℕ → Bool) (js : List ℕ) → beside {X = X} p js [] ≡ []
beside_none p [] = refl
beside_none p (j ∷ js) = refl

beside_more : {X : Type 0} (p : ℕ → Bool) (js : List ℕ) (xs : List X) (x : X) → length xs < length js →
    beside p js (xs ++ x ∷ []) ≡ beside p js xs ++ cond (p (get_or js (length xs) 0)) (x ∷ []) []
beside_more p [] xs x h = absurd (omega arith)
beside_more {X} p (j ∷ js) [] x h = grind (arith, common_steps, cases_Bool, beside_none)
beside_more p (j ∷ js) (y ∷ xs) x h = grind (arith, common_steps, beside_more p js xs x (omega arith))

-- what passes stands in a filter after what passed before it
filter_at : (p : ℕ → Bool) (xs : List ℕ) (i : ℕ) → i < length xs → p (get_or xs i 0) ≡ true →
    (length (filter p (take i xs)) < length (filter p xs)) ×
    (get_or (filter p xs) (length (filter p (take i xs))) 0 ≡ get_or xs i 0)
filter_at p [] i h t = absurd (omega arith)
filter_at p (x ∷ xs) zero h t = rw t (omega arith, refl)
filter_at p (x ∷ xs) (suc i) h t = grind (arith, common_steps, filter_at p xs i (omega arith) t)

-- ---- the walk

-- the values of the first children; `known` of these children are covered
pub record IsWalked {X : Type 0} (covered js : List ℕ) (digests sent : List X) (place known : ℕ) (values : List X) :
    Type 0 where
  pub count : known ≡ length (filter (is_among covered) (take place js))
  pub each : length values ≡ place
  pub ins : beside (is_among covered) js values ≡ take known digests
  pub outs : beside (λ j. not (is_among covered j)) js values ≡ take (place - known) sent

pub walk_start : {X : Type 0} (covered js : List ℕ) (digests sent values : List X) → values ≡ [] →
    IsWalked covered js digests sent 0 0 values
walk_start {X} covered js digests sent values e = grind (arith, common_steps, beside_none)

-- a place among the digests that were sent, for a child that is not the next covered node
pub record IsSent (place known count : ℕ) : Type 0 where
  pub behind : known ≤ place
  pub below : place - known < count
  pub within : place - known ≤ count

-- there is no next one
pub none_next : {P : Type 0} (known count : ℕ) → count ≤ known → known < count → P
none_next known count h k = absurd (omega arith)

module _ {X : Type 0} (n : ℕ) (parents covered : List ℕ) (digests sent : List X)
    (w : IsFamily n parents covered digests sent) (place known : ℕ) (values : List X) (h : place < n * length parents)
    (k : IsWalked covered (children_under n parents) digests sent place known values) where
  -- a child that is covered is the next covered node
  next_known : is_among covered (get_or (children_under n parents) place 0) ≡ true →
      (known < length covered) × (get_or covered known 0 ≡ get_or (children_under n parents) place 0)
  next_known t = grind (arith, common_steps, children_length, filter_at)

  -- how many of the first children are covered, and how many are not
  split_at : length (filter (λ j. not (is_among covered j)) (take place (children_under n parents))) + known ≡ place
  split_at = grind (arith, common_steps, length-take-le, length-filter_both, children_length)

  -- how many children are not covered
  unknown_is : length (filter (λ j. not (is_among covered j)) (children_under n parents))
      ≡ unknown_count n parents covered
  unknown_is = grind (arith, common_steps, length-filter_both, children_length)

  uncovered : (known < length covered → get_or covered known 0 ≡ n * get_or parents (place / n) 0 + place % n → ⊥) →
      is_among covered (get_or (children_under n parents) place 0) ≡ false
  uncovered other = false_from_ne_true (is_among covered (get_or (children_under n parents) place 0))
      (λ t. let next = next_known t in other next.0 (next.1 ∙ child_at n parents place h))

  pub is_sent : (known < length covered → get_or covered known 0 ≡ n * get_or parents (place / n) 0 + place % n → ⊥) →
      IsSent place known (length sent)
  is_sent other =
      let js = children_under n parents in
      let split = split_at in
      let kept = filter_at (λ j. not (is_among covered j)) js place (omega (arith, children_length n parents))
      (not_from_false (is_among covered (get_or js place 0)) (uncovered other)) in
      let inside : place - known < length sent = omega (arith, kept.0, unknown_is, w.enough) in
      record { behind = omega arith; below = inside; within = omega arith }

  -- one value more: of a covered child
  pub known_more : known < length covered → get_or covered known 0 ≡ n * get_or parents (place / n) 0 + place % n →
      (x : X) (more_known : ℕ) (more : List X) → x ≡ get_or digests known x → more_known ≡ known + 1 →
      more ≡ values ++ x ∷ [] → IsWalked covered (children_under n parents) digests sent (place + 1) more_known more
  known_more below is x more_known more read more_is items =
      let js = children_under n parents in
      let long : place < length js = omega (arith, children_length n parents) in
      let j = get_or js place 0 in
      let same : get_or covered known 0 ≡ j = is ∙ sym (child_at n parents place h) in
      let t : is_among covered j ≡ true = ap (is_among covered) (sym same) ∙ listed_at covered known 0 below in
      let split = split_at in
      let z : (place + 1) - (known + 1) ≡ place - known = omega arith in
      let next : take (known + 1) digests ≡ take known digests ++ x ∷ [] =
      take_more digests known x (omega (arith, w.one_each))
      ∙ ap (λ (y : X). take known digests ++ y ∷ []) (sym read) in
      rw (more_is, items)
      record {
        count = let counted = length-filter_more (is_among covered) js place 0 long in let m = rw t at counted in
            omega (arith, m, k.count);
        each = omega (arith, length-append values (x ∷ []), k.each);
        ins = beside_more (is_among covered) js values x (omega (arith, k.each)) ∙ rw (k.each, t, k.ins) (sym next);
        outs = beside_more (λ j. not (is_among covered j)) js values x (omega (arith, k.each))
            ∙ rw (k.each, t, k.outs, z) (append-nil (take (place - known) sent));
      }

  -- and of another
  pub unknown_more :
      (known < length covered → get_or covered known 0 ≡ n * get_or parents (place / n) 0 + place % n → ⊥) →
      (x : X) (more_known : ℕ) (more : List X) → x ≡ get_or sent (place - known) x → more_known ≡ known →
      more ≡ values ++ x ∷ [] → IsWalked covered (children_under n parents) digests sent (place + 1) more_known more
  unknown_more other x more_known more read more_is items =
      let js = children_under n parents in
      let long : place < length js = omega (arith, children_length n parents) in
      let f = uncovered other in
      let left = is_sent other in
      let z : (place + 1) - known ≡ place - known + 1 = omega (arith, left.behind) in
      let next : take (place - known + 1) sent ≡ take (place - known) sent ++ x ∷ [] =
      take_more sent (place - known) x left.below ∙ ap (λ (y : X). take (place - known) sent ++ y ∷ []) (sym read) in
      rw (more_is, items)
      record {
        count = let counted = length-filter_more (is_among covered) js place 0 long in let m = rw f at counted in
            omega (arith, m, k.count);
        each = omega (arith, length-append values (x ∷ []), k.each);
        ins = beside_more (is_among covered) js values x (omega (arith, k.each))
            ∙ rw (k.each, f, k.ins) (append-nil (take known digests));
        outs = beside_more (λ j. not (is_among covered j)) js values x (omega (arith, k.each))
            ∙ rw (k.each, f, k.outs, z) (sym next);
      }

-- the whole walk
pub walk_end : {X : Type 0} (n : ℕ) (parents covered : List ℕ) (digests sent : List X) →
    IsFamily n parents covered digests sent → (place known : ℕ) (values : List X) → n * length parents ≤ place →
    place ≤ n * length parents → IsWalked covered (children_under n parents) digests sent place known values →
    AreChildren n parents covered digests sent values
walk_end n parents covered digests sent w place known values past inside k =
    grind (arith, common_steps, take_all, children_length)
