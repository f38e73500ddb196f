-- Ascending lists of numbers: there is one of the numbers that pass a test, in groups, and with repeats dropped.
use Rattle.std.proofs.Common.{◌≡◌, ℕ, zero, suc, ◌+◌, ◌*◌, ◌/◌, ◌%◌, ◌<◌, ◌≤◌, Bool, true, false, not, eqb, List, []}
use Rattle.std.proofs.Common.{◌∷◌, ◌++◌, map, refl, ap, sym, ◌∙◌, arith, inl, inr, length, filter, get_or, eq-eqb}
use Rattle.std.proofs.Common.{AllPairs, length-append}
use Rattle.std.proofs.Math.Nat.{mul-le-mul_left}
use Rattle.std.proofs.lemmas.Grind.{common_steps}
use Rattle.std.proofs.lemmas.Bool.{cases_Bool, cases_eq, eqb-true, eqb-false, or_cases, or_left, or_right, true≢false}
use Rattle.std.proofs.lemmas.Bool.{false_from_ne_true}
use Rattle.std.proofs.lemmas.List.Filters.{length-filter_both}
use Rattle.std.proofs.lemmas.List.Folds.{list_any-append, list_any_at}
use Rattle.std.proofs.lemmas.List.Kept.{AllPairs-from_increasing}
use Rattle.std.proofs.lemmas.List.FromFn.{length-range_with_len}
use Rattle.std.specs.List.{list_any, range_with_len, dedup, dedup_from, flat_map}
use Rattle.std.specs.List.Sorted.{IsStrictlyIncreasing}
use Rattle.p3_support.specs.Lists.{is_among}
use Rattle.p3_merkle_core.specs.Inner.Agreement.{IsAscending}

-- ---- ascending lists

-- each number is at least a, and above those before it
abbrev pub IsRising : ℕ → List ℕ → Type 0
IsRising a [] = Unit {0}
IsRising a (x ∷ xs) = (a ≤ x) × IsRising (suc x) xs

pub rising_lower : (a b : ℕ) (xs : List ℕ) → a ≤ b → IsRising b xs → IsRising a xs
rising_lower a b [] le r = tt
rising_lower a b (x ∷ xs) le r = (omega (arith, r.0), r.1)

rising_from_pairs : (a : ℕ) (xs : List ℕ) → AllPairs (λ x y. x < y) xs → (0 < length xs → a ≤ get_or xs 0 0) →
    IsRising a xs
rising_from_pairs a [] p h = tt
rising_from_pairs a (x ∷ xs) p h = (
  h (omega arith),
  rising_from_pairs (suc x) xs (λ i j d l k. p (suc i) (suc j) d (omega arith) (omega arith))
      (λ k. let q = p 0 1 0 (omega arith) (omega arith) in omega arith),
)

pub rising_from : (xs : List ℕ) → IsStrictlyIncreasing xs → IsRising 0 xs
rising_from xs h = rising_from_pairs 0 xs (AllPairs-from_increasing xs h) (λ k. omega arith)

-- a number in the list is not below its start
pub listed_from : (a : ℕ) (xs : List ℕ) (j : ℕ) → IsRising a xs → is_among xs j ≡ true → a ≤ j
listed_from a [] j r h = absurd (true≢false (sym h))
listed_from a (x ∷ xs) j r h =
    elim (or_cases (eqb x j) (is_among xs j) h) [
      | inl e ↦ let is = eqb-true x j e in omega (arith, r.0)
      | inr rest ↦ omega (arith, r.0, listed_from (suc x) xs j r.1 rest)
    ]

-- an ascending list of just the numbers from a on, below a + n, that pass
pub record IsJust (p : ℕ → Bool) (a n : ℕ) (xs : List ℕ) : Type 0 where
  pub rising : IsRising a xs
  pub sound : (j : ℕ) → is_among xs j ≡ true → (j < a + n) × (p j ≡ true)
  pub complete : (j : ℕ) → a ≤ j → j < a + n → p j ≡ true → is_among xs j ≡ true

-- there is one such list
pub filter_is : (p : ℕ → Bool) (a n : ℕ) (xs : List ℕ) → IsJust p a n xs → xs ≡ filter p (range_with_len a n)
filter_is p a zero [] w = refl
filter_is p a zero (x ∷ xs) w =
    absurd (omega (arith, w.rising.0, (w.sound x (or_left (eqb x x) (is_among xs x) (eq-eqb x x refl))).0))
filter_is p a (suc n) [] w =
    let f : p a ≡ false =
    false_from_ne_true (p a) (λ t. true≢false (sym (w.complete a (omega arith) (omega arith) t))) in
    rw f (filter_is p (a + 1) n [] (record {
      rising = tt;
      sound = λ j h. absurd (true≢false (sym h));
      complete = λ j low high t. w.complete j (omega arith) (omega arith) t;
    }))
filter_is p a (suc n) (x ∷ xs) w =
    elim (cases_eq x a) [
      | inl e ↦
          let t : p a ≡ true = rw e at ((w.sound x (or_left (eqb x x) (is_among xs x) (eq-eqb x x refl))).1) in
          let up : IsRising (a + 1) xs = rising_lower (a + 1) (suc x) xs (omega arith) w.rising.1 in
          rw (t, e) (ap (λ ys. a ∷ ys) (filter_is p (a + 1) n xs (record {
            rising = up;
            sound = λ j h. let q = w.sound j (or_right (eqb x j) (is_among xs j) h) in (omega (arith, q.0), q.1);
            complete = λ j low high u.
                elim (or_cases (eqb x j) (is_among xs j) (w.complete j (omega arith) (omega arith) u)) [
                  | inl same ↦ absurd (let is = eqb-true x j same in omega arith)
                  | inr rest ↦ rest
                ];
          })))
      | inr ne ↦
          let above : a + 1 ≤ x = omega (arith, w.rising.0) in
          let up : IsRising (a + 1) (x ∷ xs) = (above, w.rising.1) in
          let f : p a ≡ false =
          false_from_ne_true (p a)
          (λ t. let h = listed_from (a + 1) (x ∷ xs) a up (w.complete a (omega arith) (omega arith) t) in
          absurd (omega arith)) in
          rw f (filter_is p (a + 1) n (x ∷ xs) (record {
            rising = up;
            sound = λ j h. let q = w.sound j h in (omega (arith, q.0), q.1);
            complete = λ j low high u. w.complete j (omega arith) (omega arith) u;
          }))
    ]

-- ---- what a filter over a range lists

pub listed_in : (p : ℕ → Bool) (a n j : ℕ) → is_among (filter p (range_with_len a n)) j ≡ true →
    (a ≤ j) × (j < a + n) × (p j ≡ true)
listed_in p a zero j h = absurd (true≢false (sym h))
listed_in p a (suc n) j h =
    elim (cases_Bool (p a)) [
      | inl t ↦ elim (or_cases (eqb a j) (is_among (filter p (range_with_len (a + 1) n)) j) (rw t at h)) [
        | inl e ↦ let is = eqb-true a j e in (omega arith, omega arith, rw (← is) t)
        | inr rest ↦ let q = listed_in p (a + 1) n j rest in (omega (arith, q.0), omega (arith, q.1), q.2)
      ]
      | inr f ↦ let q = listed_in p (a + 1) n j (rw f at h) in (omega (arith, q.0), omega (arith, q.1), q.2)
    ]

pub listed_there : (p : ℕ → Bool) (a n j : ℕ) → p j ≡ true → a ≤ j → j < a + n →
    is_among (filter p (range_with_len a n)) j ≡ true
listed_there p a zero j h low high = absurd (omega arith)
listed_there p a (suc n) j h low high =
    elim (cases_eq a j) [
      | inl e ↦
          let t : p a ≡ true = rw e h in
          rw t (or_left (eqb a j) (is_among (filter p (range_with_len (a + 1) n)) j) (eq-eqb a j e))
      | inr ne ↦
          let rest = listed_there p (a + 1) n j h (omega arith) (omega arith) in
          elim (cases_Bool (p a)) [
            | inl t ↦ rw t (or_right (eqb a j) (is_among (filter p (range_with_len (a + 1) n)) j) rest)
            | inr f ↦ rw f rest
          ]
    ]

pub rising_filter : (p : ℕ → Bool) (a n : ℕ) → IsRising a (filter p (range_with_len a n))
rising_filter p a zero = tt
rising_filter p a (suc n) = grind (arith, common_steps, rising_filter p (a + 1) n, cases_Bool, rising_lower)

-- ---- all and nothing of a range

pub none_kept : (p : ℕ → Bool) (a n : ℕ) → ((m : ℕ) → a ≤ m → m < a + n → p m ≡ false) → filter p (range_with_len a n)
    ≡ []
none_kept p a zero none = refl
none_kept p a (suc n) none =
    rw (none a (omega arith) (omega arith)) (none_kept p (a + 1) n (λ m low high. none m (omega arith) (omega arith)))

pub all_kept : (p : ℕ → Bool) (a n : ℕ) → ((m : ℕ) → a ≤ m → m < a + n → p m ≡ true) → filter p (range_with_len a n)
    ≡ range_with_len a n
all_kept p a zero all = refl
all_kept p a (suc n) all =
    rw (all a (omega arith) (omega arith))
    (ap (λ ys. a ∷ ys) (all_kept p (a + 1) n (λ m low high. all m (omega arith) (omega arith))))

pub range_joined : (a m n : ℕ) → range_with_len a (m + n) ≡ range_with_len a m ++ range_with_len (a + m) n
range_joined a zero n = let z : a + 0 ≡ a = omega arith in let e : 0 + n ≡ n = omega arith in rw (z, e) refl
range_joined a (suc m) n =
    let e : suc m + n ≡ suc (m + n) = omega arith in
    let next : (a + 1) + m ≡ a + suc m = omega arith in
    rw e (ap (λ ys. a ∷ ys) (rw next at (range_joined (a + 1) m n)))

-- ---- groups

-- the numbers of the groups of n at these places that pass, group by group
abbrev pub by_groups : ℕ → (ℕ → Bool) → List ℕ → List ℕ
by_groups n p places = flat_map (λ g. filter p (range_with_len (n * g) n)) places

pub place_of : (n g j : ℕ) → n * g ≤ j → j < n * g + n → j / n ≡ g
place_of n g j low high = grind (arith, common_steps)

rising_append : (a b : ℕ) (xs ys : List ℕ) → a ≤ b → IsRising a xs → ((j : ℕ) → is_among xs j ≡ true → j < b) →
    IsRising b ys → IsRising a (xs ++ ys)
rising_append a b [] ys le r below s = rising_lower a b ys le s
rising_append a b (x ∷ xs) ys le r below s = (
  r.0,
  rising_append (suc x) b xs ys (below x (or_left (eqb x x) (is_among xs x) (eq-eqb x x refl))) r.1
      (λ j h. below j (or_right (eqb x j) (is_among xs j) h)) s,
)

rising_groups : (n : ℕ) (p : ℕ → Bool) (a : ℕ) (places : List ℕ) → IsRising a places →
    IsRising (n * a) (by_groups n p places)
rising_groups n p a [] r = tt
rising_groups n p a (g ∷ places) r =
    let here = filter p (range_with_len (n * g) n) in
    rising_append (n * a) (n * suc g) here (by_groups n p places) (mul-le-mul_left n (omega (arith, r.0)))
    (rising_lower (n * a) (n * g) here (mul-le-mul_left n r.0) (rising_filter p (n * g) n))
    (λ j h. let q = listed_in p (n * g) n j h in omega (arith, q.1)) (rising_groups n p (suc g) places r.1)

groups_sound : (n : ℕ) (p : ℕ → Bool) (places : List ℕ) (j : ℕ) → is_among (by_groups n p places) j ≡ true →
    (is_among places (j / n) ≡ true) × (p j ≡ true)
groups_sound n p [] j h = absurd (true≢false (sym h))
groups_sound n p (g ∷ places) j h =
    let here = filter p (range_with_len (n * g) n) in
    let rest = by_groups n p places in
    elim (or_cases (is_among here j) (is_among rest j) (sym (list_any-append (λ x. eqb x j) here rest) ∙ h)) [
      | inl first ↦
          let q = listed_in p (n * g) n j first in
          (or_left (eqb g (j / n)) (is_among places (j / n)) (eq-eqb g (j / n) (sym (place_of n g j q.0 q.1))), q.2)
      | inr later ↦
          let q = groups_sound n p places j later in
          (or_right (eqb g (j / n)) (is_among places (j / n)) q.0, q.1)
    ]

groups_complete : (n : ℕ) → 0 < n → (p : ℕ → Bool) (places : List ℕ) (j : ℕ) → is_among places (j / n) ≡ true → p j
    ≡ true → is_among (by_groups n p places) j ≡ true
groups_complete n some p [] j h t = absurd (true≢false (sym h))
groups_complete n some p (g ∷ places) j h t =
    let here = filter p (range_with_len (n * g) n) in
    let rest = by_groups n p places in
    list_any-append (λ x. eqb x j) here rest ∙ elim (or_cases (eqb g (j / n)) (is_among places (j / n)) h) [
      | inl e ↦
          let whole : n * (j / n) + j % n ≡ j = omega arith in
          let small : j % n < n = omega arith in
          let is : n * g ≡ n * (j / n) = ap (λ z. n * z) (eqb-true g (j / n) e) in
          or_left (is_among here j) (is_among rest j) (listed_there p (n * g) n j t (omega arith) (omega arith))
      | inr later ↦ or_right (is_among here j) (is_among rest j) (groups_complete n some p places j later t)
    ]

-- where each group lies below m, and q asks for a group that is listed and for p, the groups list what passes q
pub groups_are : (n : ℕ) → 0 < n → (p q : ℕ → Bool) (places : List ℕ) (m : ℕ) → IsRising 0 places →
    ((g : ℕ) → is_among places g ≡ true → n * g + n ≤ m) →
    ((j : ℕ) → q j ≡ true → (is_among places (j / n) ≡ true) × (p j ≡ true)) →
    ((j : ℕ) → is_among places (j / n) ≡ true → p j ≡ true → q j ≡ true) →
    by_groups n p places ≡ filter q (range_with_len 0 m)
groups_are n some p q places m r fits parts both =
    filter_is q 0 m (by_groups n p places) (record {
      rising = rising_lower 0 (n * 0) (by_groups n p places) (omega arith) (rising_groups n p 0 places r);
      sound = λ j h.
          let c = groups_sound n p places j h in
          let room = fits (j / n) c.0 in
          let whole : n * (j / n) + j % n ≡ j = omega arith in
          let small : j % n < n = omega arith in
          (omega arith, both j c.0 c.1);
      complete = λ j low high t. let c = parts j t in groups_complete n some p places j c.0 c.1;
    })

-- what passes and what does not make up the groups
pub groups_count : (n : ℕ) (p : ℕ → Bool) (places : List ℕ) →
    length (by_groups n (λ j. not (p j)) places) + length (by_groups n p places) ≡ n * length places
groups_count n p [] = omega arith
groups_count n p (g ∷ places) =
    grind (arith, common_steps, groups_count n p places, length-append, length-filter_both, length-range_with_len)

-- ---- repeats that are dropped

-- no number is below the one before it, nor below a
abbrev IsClimbing : ℕ → List ℕ → Type 0
IsClimbing a [] = Unit {0}
IsClimbing a (x ∷ xs) = (a ≤ x) × IsClimbing x xs

dedup_rising : (k : ℕ) (xs : List ℕ) → IsClimbing k xs → IsRising k (dedup_from eqb k xs)
dedup_rising k [] w = (omega arith, tt)
dedup_rising k (x ∷ xs) w =
    grind (arith, common_steps, dedup_rising x xs w.1, cases_Bool, eqb-true, eqb-false, rising_lower)

climbing_from : (a : ℕ) (xs : List ℕ) → (0 < length xs → a ≤ get_or xs 0 0) → IsAscending xs → IsClimbing a xs
climbing_from a [] low up = tt
climbing_from a (x ∷ xs) low up = (
  low (omega arith),
  climbing_from x xs (λ k. up 0 1 (omega arith) (omega arith))
      (λ i j h k. up (suc i) (suc j) (omega arith) (omega arith)),
)

pub rising_once : (xs : List ℕ) → IsAscending xs → IsRising 0 (dedup eqb xs)
rising_once [] up = tt
rising_once (x ∷ xs) up =
    let rest = climbing_from x xs (λ k. up 0 1 (omega arith) (omega arith))
    (λ i j h k. up (suc i) (suc j) (omega arith) (omega arith)) in
    rising_lower 0 x (dedup_from eqb x xs) (omega arith) (dedup_rising x xs rest)

dedup_lists : (k : ℕ) (xs : List ℕ) (j : ℕ) → is_among (dedup_from eqb k xs) j ≡ is_among (k ∷ xs) j
dedup_lists k [] j = refl
dedup_lists k (x ∷ xs) j = grind (arith, common_steps, dedup_lists k xs j, dedup_lists x xs j)

pub listed_dedup : (xs : List ℕ) (j : ℕ) → is_among (dedup eqb xs) j ≡ is_among xs j
listed_dedup [] j = refl
listed_dedup (x ∷ xs) j = dedup_lists x xs j

pub div_mono : (n a b : ℕ) → 0 < n → a ≤ b → a / n ≤ b / n
div_mono n a b some h = grind (arith, common_steps)

climbing_map : (n : ℕ) → 0 < n → (a b : ℕ) (xs : List ℕ) → b ≤ a → IsRising a xs →
    IsClimbing (b / n) (map (λ j. j / n) xs)
climbing_map n some a b [] le r = tt
climbing_map n some a b (x ∷ xs) le r =
    grind (arith, common_steps, climbing_map n some (suc x) x xs (omega arith) r.1, div_mono)

pub rising_dedup : (n : ℕ) → 0 < n → (xs : List ℕ) → IsRising 0 xs → IsRising 0 (dedup eqb (map (λ j. j / n) xs))
rising_dedup n some [] r = tt
rising_dedup n some (x ∷ xs) r =
    rising_lower 0 (x / n) (dedup_from eqb (x / n) (map (λ j. j / n) xs)) (omega arith)
    (dedup_rising (x / n) (map (λ j. j / n) xs) (climbing_map n some (suc x) x xs (omega arith) r.1))

pub listed_map : (f : ℕ → ℕ) (xs : List ℕ) (j : ℕ) → is_among (map f xs) j ≡ true → (k : ℕ) × (is_among xs k ≡ true) ×
    (f k ≡ j)
listed_map f [] j h = absurd (true≢false (sym h))
listed_map f (x ∷ xs) j h =
    elim (or_cases (eqb (f x) j) (is_among (map f xs) j) h) [
      | inl e ↦ (x, or_left (eqb x x) (is_among xs x) (eq-eqb x x refl), eqb-true (f x) j e)
      | inr rest ↦ let q = listed_map f xs j rest in (q.0, or_right (eqb x q.0) (is_among xs q.0) q.1, q.2)
    ]

pub map_lists : (f : ℕ → ℕ) (xs : List ℕ) (k : ℕ) → is_among xs k ≡ true → is_among (map f xs) (f k) ≡ true
map_lists f [] k h = absurd (true≢false (sym h))
map_lists f (x ∷ xs) k h =
    elim (or_cases (eqb x k) (is_among xs k) h) [
      | inl e ↦ or_left (eqb (f x) (f k)) (is_among (map f xs) (f k)) (eq-eqb (f x) (f k) (ap f (eqb-true x k e)))
      | inr rest ↦ or_right (eqb (f x) (f k)) (is_among (map f xs) (f k)) (map_lists f xs k rest)
    ]

pub rising_length : (a b : ℕ) (xs : List ℕ) → a ≤ b → IsRising a xs → ((j : ℕ) → is_among xs j ≡ true → j < b) →
    length xs + a ≤ b
rising_length a b [] le r below = omega arith
rising_length a b (x ∷ xs) le r below =
    omega (
      arith,
      r.0,
      rising_length (suc x) b xs (below x (or_left (eqb x x) (is_among xs x) (eq-eqb x x refl))) r.1
          (λ j h. below j (or_right (eqb x j) (is_among xs j) h)),
    )

-- ---- by places

pub listed_at : (xs : List ℕ) (k d : ℕ) → k < length xs → is_among xs (get_or xs k d) ≡ true
listed_at xs k d h = list_any_at (λ x. eqb x (get_or xs k d)) xs k d h (eq-eqb (get_or xs k d) (get_or xs k d) refl)

pub increasing_from : (a : ℕ) (xs : List ℕ) → IsRising a xs → IsStrictlyIncreasing xs
increasing_from a [] r k h = absurd (omega arith)
increasing_from a (x ∷ []) r k h = absurd (omega arith)
increasing_from a (x ∷ y ∷ xs) r zero h = omega (arith, r.1.0)
increasing_from a (x ∷ y ∷ xs) r (suc k) h =
    grind (arith, common_steps, increasing_from (suc x) (y ∷ xs) r.1 k (omega arith))
