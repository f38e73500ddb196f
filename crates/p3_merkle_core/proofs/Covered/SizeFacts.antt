-- How many digests a pruned proof has: at most the siblings of one opening for each distinct index, and just these for
-- one index.
use Rattle.std.proofs.Common.{◌≡◌, ℕ, zero, suc, ◌+◌, ◌-◌, ◌*◌, ◌/◌, ◌<◌, ◌≤◌, Bool, eqb, ◌||◌, List, [], ◌∷◌}
use Rattle.std.proofs.Common.{map, refl, ap, sym, ◌∙◌, arith, inl, inr, length, filter, All}
use Rattle.std.proofs.lemmas.Grind.{common_steps}
use Rattle.std.proofs.lemmas.Bool.{cases_Bool, cases_eq, cond_both, eqb-true, ne_eqb}
use Rattle.std.proofs.lemmas.List.{length-map}
use Rattle.std.proofs.Math.Nat.{mul-le-mul_left}
use Rattle.std.proofs.lemmas.List.FromFn.{sum_by-map-range_with_len_more}
use Rattle.std.specs.List.{dedup, dedup_from, range_with_len, sum_by}
use Rattle.p3_support.specs.Batches.{greatest}
use Rattle.p3_support.specs.Lists.{is_among}
use Rattle.p3_merkle_core.specs.Geometry.{Shape, heights, is_bridge, layer_exponent, layer_len, raw_len}
use Rattle.p3_merkle_core.specs.Geometry.{schedule_below, step}
use Rattle.p3_merkle_core.specs.Checks.{siblings_below}
use Rattle.p3_merkle_core.specs.Pruning.{CanQuery, boundary_at, is_covered, pruned_len}
use Rattle.p3_merkle_core.specs.Refusals.{slots_below}
use Rattle.p3_merkle_core.specs.Sizes.{IsFew}
use Rattle.p3_merkle_core.specs.Inner.Covered.{covered_at}
use Rattle.p3_merkle_core.proofs.Checks.CheckFacts.{padded_ge}
use Rattle.p3_merkle_core.proofs.Covered.CoveredFacts.{covered_above, covered_count, covered_leaf, listed_below}
use Rattle.p3_merkle_core.proofs.Covered.CoveredFacts.{pruned_next, pruned_start, raw_start}
use Rattle.p3_merkle_core.proofs.Lists.RisingFacts.{filter_is, listed_in, listed_there, none_kept, rising_filter}
use Rattle.p3_merkle_core.proofs.Shapes.SiblingFacts.{siblings_next, siblings_start}
use Rattle.p3_merkle_core.proofs.Shapes.StepFacts.{step_above_1}

-- ---- the siblings of one opening

step_narrow : (s : Shape) (l : ℕ) → 2 ≤ s.arity → step s l ≤ s.arity
step_narrow s l two =
    cond_both (is_bridge s (layer_exponent s l)) 2 s.arity (λ x. x ≤ s.arity) (λ t. two) (λ t. omega arith)

-- they are at most one less than the arity on each level
pub siblings_most : (s : Shape) → 2 ≤ s.arity → (t : ℕ) → siblings_below s t ≤ (s.arity - 1) * t
siblings_most s two zero = omega (arith, siblings_start s)
siblings_most s two (suc t) =
    omega (arith, siblings_next s t, siblings_most s two t, step_narrow s t two)

-- and one less than the step on each
pub siblings_sum : (s : Shape) (t : ℕ) → siblings_below s t ≡ sum_by (λ n. n - 1) (schedule_below s t)
siblings_sum s zero = siblings_start s
siblings_sum s (suc t) =
    let more = sum_by-map-range_with_len_more (λ n. n - 1) (step s) 0 t t (omega arith) in
    let next : t + 1 ≡ suc t = omega arith in
    siblings_next s t ∙ ap (λ n. n + (step s t - 1)) (siblings_sum s t) ∙ sym (rw next at more)

-- ---- covered nodes

dedup_shorter : (k : ℕ) (xs : List ℕ) → length (dedup_from eqb k xs) ≤ length xs + 1
dedup_shorter k [] = omega arith
dedup_shorter k (x ∷ xs) = grind (arith, common_steps, dedup_shorter x xs, dedup_shorter k xs)

shorter : (xs : List ℕ) → length (dedup eqb xs) ≤ length xs
shorter [] = omega arith
shorter (x ∷ xs) = omega (arith, dedup_shorter x xs)

-- no layer has more covered nodes than that below it
covered_fewer : (s : Shape) (queries : List ℕ) (t : ℕ) → CanQuery s queries t → (l : ℕ) → l < t →
    length (covered_at s queries (suc l)) ≤ length (covered_at s queries l)
covered_fewer s queries t w l h =
    let above = map (λ j. j / step s l) (covered_at s queries l) in
    omega (
      arith,
      ap length (covered_above s queries t w l h),
      shorter above,
      length-map (covered_at s queries l) (λ j. j / step s l),
    )

covered_most : (s : Shape) (queries : List ℕ) (t : ℕ) → CanQuery s queries t → (l : ℕ) → l ≤ t →
    length (covered_at s queries l) ≤ length (covered_at s queries 0)
covered_most s queries t w zero h = omega arith
covered_most s queries t w (suc l) h =
    omega (arith, covered_fewer s queries t w l (omega arith), covered_most s queries t w l (omega arith))

-- a group has one covered node at least
boundary_few : (s : Shape) (queries : List ℕ) (t : ℕ) → CanQuery s queries t → (l : ℕ) → l < t →
    length (boundary_at s queries l) ≤ length (covered_at s queries (suc l)) * (step s l - 1)
boundary_few s queries t w l h =
    let above = length (covered_at s queries (suc l)) in
    let two = step_above_1 s l w.well_shaped.above_1 in
    let whole : step s l ≡ (step s l - 1) + 1 = omega arith in
    let split : step s l * above ≡ ((step s l - 1) + 1) * above = ap (λ n. n * above) whole in
    omega (arith, covered_count s queries t w l h, covered_fewer s queries t w l h)

-- ---- digests

by_covered : (s : Shape) (queries : List ℕ) (t : ℕ) → CanQuery s queries t → (l : ℕ) → l ≤ t →
    pruned_len s queries l ≤ length (covered_at s queries 0) * siblings_below s l
by_covered s queries t w zero h = omega (arith, pruned_start s queries)
by_covered s queries t w (suc l) h =
    let d = length (covered_at s queries 0) in
    let above = length (covered_at s queries (suc l)) in
    let most : (step s l - 1) * above ≤ (step s l - 1) * d =
    mul-le-mul_left (step s l - 1) (covered_most s queries t w (suc l) h) in
    let sum : d * siblings_below s (suc l) ≡ d * (siblings_below s l + (step s l - 1)) =
    ap (λ n. d * n) (siblings_next s l) in
    omega (
      arith,
      pruned_next s queries l,
      boundary_few s queries t w l (omega arith),
      by_covered s queries t w l (omega arith),
    )

-- above one covered leaf each layer has one covered node
one_covered : (s : Shape) (queries : List ℕ) (t : ℕ) → CanQuery s queries t → length (covered_at s queries 0) ≡ 1 →
    (l : ℕ) → l ≤ t → length (covered_at s queries l) ≡ 1
one_covered s queries t w one zero h = one
one_covered s queries t w one (suc l) h =
    let here = one_covered s queries t w one l (omega arith) in
    let count = covered_count s queries t w l (omega arith) in
    let most = covered_most s queries t w (suc l) h in
    elim (cases_eq (length (covered_at s queries (suc l))) 0) [
      | inl none ↦
          let nothing : step s l * length (covered_at s queries (suc l)) ≡ step s l * 0 = ap (λ n. step s l * n) none in
          absurd (omega arith)
      | inr some ↦ omega arith
    ]

by_one : (s : Shape) (queries : List ℕ) (t : ℕ) → CanQuery s queries t → length (covered_at s queries 0) ≡ 1 →
    (l : ℕ) → l ≤ t → pruned_len s queries l ≡ siblings_below s l
by_one s queries t w one zero h = pruned_start s queries ∙ sym (siblings_start s)
by_one s queries t w one (suc l) h =
    let here = one_covered s queries t w one l (omega arith) in
    let above = one_covered s queries t w one (suc l) h in
    let single : step s l * length (covered_at s queries (suc l)) ≡ step s l * 1 = ap (λ n. step s l * n) above in
    omega (
      arith,
      pruned_next s queries l,
      covered_count s queries t w l (omega arith),
      by_one s queries t w one l (omega arith),
      siblings_next s l,
    )

-- ---- distinct indices

-- the covered leaves are the distinct indices
leaves_are : (s : Shape) (queries : List ℕ) → All (λ q. q < greatest (heights s)) queries →
    covered_at s queries 0 ≡ slots_below (greatest (heights s)) queries
leaves_are s queries below =
    filter_is (is_among queries) 0 (greatest (heights s)) (covered_at s queries 0) (record {
      rising = rising_filter (is_covered s queries 0) 0 (layer_len s 0);
      sound = λ j h.
          let there = sym (covered_leaf s queries j) ∙ (listed_in (is_covered s queries 0) 0 (layer_len s 0) j h).2 in
          (omega (arith, listed_below (greatest (heights s)) queries j below there), there);
      complete = λ j low high c.
          listed_there (is_covered s queries 0) 0 (layer_len s 0) j (covered_leaf s queries j ∙ c) (omega arith)
          (omega (arith, raw_start s, padded_ge (raw_len s 0) s.arity));
    })

either_few : (p q : ℕ → Bool) (xs : List ℕ) →
    length (filter (λ j. p j || q j) xs) ≤ length (filter p xs) + length (filter q xs)
either_few p q [] = omega arith
either_few p q (x ∷ xs) = grind (arith, common_steps, either_few p q xs, cases_Bool)

once_kept : (q a n : ℕ) → length (filter (eqb q) (range_with_len a n)) ≤ 1
once_kept q a zero = omega arith
once_kept q a (suc n) =
    elim (cases_Bool (eqb q a)) [
      | inl t ↦
          let is = eqb-true q a t in
          rw (t, none_kept (eqb q) (a + 1) n (λ m low high. ne_eqb q m (λ e. absurd (omega arith)))) (omega arith)
      | inr f ↦ rw f (once_kept q (a + 1) n)
    ]

-- they are no more than the indices
slots_few : (m : ℕ) (queries : List ℕ) → length (slots_below m queries) ≤ length queries
slots_few m [] =
    let none : slots_below m [] ≡ [] = none_kept (is_among []) 0 m (λ k low high. refl) in omega (arith, ap length none)
slots_few m (q ∷ queries) =
    omega (
      arith,
      either_few (eqb q) (is_among queries) (range_with_len 0 m),
      once_kept q 0 m,
      slots_few m queries,
    )

-- ---- all of it

pub few : (s : Shape) (queries : List ℕ) (t : ℕ) → CanQuery s queries t → (count : ℕ) → count ≡ pruned_len s queries t →
    IsFew s queries t count
few s queries t w count is =
    let n = siblings_below s t in
    let slots = length (slots_below (greatest (heights s)) queries) in
    let leaves = ap length (leaves_are s queries w.below) in
    let by = by_covered s queries t w t (omega arith) in
    let same : length (covered_at s queries 0) * n ≡ slots * n = ap (λ d. d * n) leaves in
    let most : n * slots ≤ n * length queries = mul-le-mul_left n (slots_few (greatest (heights s)) queries) in
    record {
      distinct = omega arith;
      all = omega arith;
      one = λ one. is ∙ by_one s queries t w (leaves ∙ one) t (omega arith);
    }
