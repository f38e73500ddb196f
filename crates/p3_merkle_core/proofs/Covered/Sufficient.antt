-- The boundary suffices, and a set of no more nodes that suffices has its members.
use Rattle.std.proofs.Common.{◌≡◌, ℕ, zero, suc, ◌+◌, ◌*◌, ◌/◌, ◌<◌, ◌≤◌, Bool, true, false, not, eqb, ◌&&◌, ◌||◌, List}
use Rattle.std.proofs.Common.{[], ◌∷◌, map, refl, sym, ◌∙◌, arith, inl, inr, length, filter, eq-eqb, All, ap, subst}
use Rattle.std.proofs.lemmas.List.Folds.{list_any-append}
use Rattle.std.proofs.lemmas.Grind.{common_steps}
use Rattle.std.proofs.lemmas.Bool.{cases_Bool, cases_eq, true≢false, cases_lt, not-true}
use Rattle.std.proofs.lemmas.Bool.{eqb-true, and_parts, and_from, or_cases, or_left, or_right, or_parts, not_from_false}
use Rattle.std.proofs.Math.Nat.{mul-le-mul_left}
use Rattle.std.specs.List.{list_any, range_with_len}
use Rattle.p3_merkle_core.specs.Geometry.{Shape, step, ancestor, raw_len, layer_len, heights, IsArity}
use Rattle.p3_support.specs.Batches.{greatest}
use Rattle.p3_merkle_core.specs.Pruning.{is_covered, is_boundary, boundary_at, boundary, is_in, IsKnown, Suffices}
use Rattle.p3_merkle_core.specs.Pruning.{IsUncovered, CanQuery, IsLeast, pruned_len}
use Rattle.p3_merkle_core.proofs.Shapes.RawFacts.{anc_below, children_fit}
use Rattle.p3_merkle_core.proofs.Covered.Under.{under_self, child_parent}
use Rattle.p3_merkle_core.proofs.Covered.Minimal.{above, boundary_one, minimal, in_boundary}
use Rattle.p3_merkle_core.proofs.Lists.ListFacts.{tally, joined_more}

-- ---- a covered node

pub covered_query : (s : Shape) (queries : List ℕ) (l j : ℕ) → All (λ q. q < greatest (heights s)) queries →
    is_covered s queries l j ≡ true → (q : ℕ) × (q < greatest (heights s)) × (ancestor s l q ≡ j)
covered_query s [] l j below c = absurd (true≢false (sym c))
covered_query s (q ∷ queries) l j below c =
    elim (or_cases (eqb (ancestor s l q) j) (is_covered s queries l j) c) [
      | inl e ↦ (q, below 0 0 (omega arith), eqb-true (ancestor s l q) j e)
      | inr r ↦ covered_query s queries l j (λ k d h. below (suc k) d (omega arith)) r
    ]

pub covered_below : (s : Shape) (queries : List ℕ) (t : ℕ) → CanQuery s queries t → (l j : ℕ) → l ≤ t →
    is_covered s queries l j ≡ true → j < raw_len s l
covered_below s queries t w l j h c = grind (arith, common_steps, anc_below, covered_query)

-- ---- what the boundary lists

in_here : (p : ℕ → Bool) (m a n j : ℕ) → p j ≡ true → a ≤ j → j < a + n →
    is_in (map (λ j. (m, j)) (filter p (range_with_len a n))) m j ≡ true
in_here p m a zero j h low high = absurd (omega arith)
in_here p m a (suc n) j h low high =
    let others = is_in (map (λ j. (m, j)) (filter p (range_with_len (a + 1) n))) m j in
    elim (cases_eq a j) [
      | inl e ↦
          let t : p a ≡ true = rw e h in
          rw t (or_left (eqb m m && eqb a j) others (and_from (eqb m m) (eqb a j) (eq-eqb m m refl) (eq-eqb a j e)))
      | inr ne ↦
          let rest = in_here p m (a + 1) n j h (omega arith) (omega arith) in
          elim (cases_Bool (p a)) [ inl t ↦ rw t (or_right (eqb m m && eqb a j) others rest) | inr f ↦ rw f rest ]
    ]

pub boundary_lists : (s : Shape) (queries : List ℕ) (t l j : ℕ) → l < t → is_boundary s queries l j ≡ true →
    j < layer_len s l → is_in (boundary s queries t) l j ≡ true
boundary_lists s queries zero l j h b fits = absurd (omega arith)
boundary_lists s queries (suc t) l j h b fits =
    let before = is_in (boundary s queries t) l j in
    let here = is_in (boundary_at s queries t) l j in
    let split : is_in (boundary s queries (suc t)) l j
    ≡ (before || here) = ap (λ xs. is_in xs l j) (joined_more (boundary_at s queries) t)
    ∙ list_any-append (λ (m, k). eqb m l && eqb k j) (boundary s queries t) (boundary_at s queries t) in
    elim (cases_eq l t) [
      | inl e ↦ split
          ∙ or_right before here
          (rw (← e) (in_here (is_boundary s queries l) l 0 (layer_len s l) j b (omega arith) (omega arith)))
      | inr ne ↦ split ∙ or_left before here (boundary_lists s queries t l j (omega arith) b fits)
    ]

-- an uncovered child of a covered node is listed
pub child_listed : (s : Shape) (queries : List ℕ) (t : ℕ) → CanQuery s queries t → (l j i : ℕ) → l < t → i < step s l →
    is_covered s queries (suc l) j ≡ true → is_covered s queries l (step s l * j + i) ≡ false →
    is_in (boundary s queries t) l (step s l * j + i) ≡ true
child_listed s queries t w l j i h k c n =
    let child = step s l * j + i in
    let q = covered_query s queries (suc l) j w.below c in
    let inside = covered_below s queries t w (suc l) j (omega arith) c in
    let all = children_fit s w.well_shaped (let b = q.1 in omega arith) l (omega (arith, w.in_tree)) in
    let most : step s l * suc j ≤ step s l * raw_len s (suc l) = mul-le-mul_left (step s l) inside in
    let b : is_boundary s queries l child ≡ true =
    and_from (is_covered s queries (suc l) (child / step s l)) (not (is_covered s queries l child))
    (rw (child_parent s l j i k) c) (not_from_false (is_covered s queries l child) n) in
    boundary_lists s queries t l child h b (omega arith)

-- ---- it suffices

given_known : (s : Shape) (queries : List ℕ) (given : List (ℕ × ℕ)) (l j : ℕ) → is_in given l j ≡ true →
    IsKnown s queries given l j
given_known s queries given zero j h = inl h
given_known s queries given (suc l) j h = inl h

boundary_knows : (s : Shape) (queries : List ℕ) (t : ℕ) → CanQuery s queries t → (l j : ℕ) → l ≤ t →
    is_covered s queries l j ≡ true → IsKnown s queries (boundary s queries t) l j
boundary_knows s queries t w zero j h c = inr c
boundary_knows s queries t w (suc l) j h c =
    inr (
      covered_below s queries t w (suc l) j h c,
      λ i k. elim (cases_Bool (is_covered s queries l (step s l * j + i))) [
        | inl y ↦ boundary_knows s queries t w l (step s l * j + i) (omega arith) y
        | inr n ↦ given_known s queries (boundary s queries t) l (step s l * j + i)
            (child_listed s queries t w l j i (omega arith) k c n)
      ],
    )

pub boundary_suffices : (s : Shape) (queries : List ℕ) (t : ℕ) → CanQuery s queries t →
    Suffices s queries t (boundary s queries t)
boundary_suffices s queries t w j c = boundary_knows s queries t w t j (omega arith) c

-- ---- nothing else of its size does

abbrev pub same : ℕ × ℕ → ℕ × ℕ → Bool
same (m, k) (l, j) = eqb l m && eqb j k

tally_le : {X : Type 0} (p q : X → Bool) → ((x : X) → p x ≡ true → q x ≡ true) → (xs : List X) → tally p xs ≤ tally q xs
unfolding tally
tally_le p q h [] = omega arith
tally_le p q h (x ∷ xs) = grind (arith, common_steps, tally_le p q h xs)

tally_none : {X : Type 0} (p : X → Bool) (xs : List X) → list_any p xs ≡ false → tally p xs ≡ 0
unfolding tally
tally_none p [] e = refl
tally_none p (x ∷ xs) e = let f = or_parts (p x) (list_any p xs) e in let a = f.0 in
    rw a (omega (arith, tally_none p xs f.1))

-- no node stands twice on the boundary
pub listed_once : (s : Shape) (queries : List ℕ) (t : ℕ) (x : ℕ × ℕ) → tally (same x) (boundary s queries t) ≤ 1
listed_once s queries t (m, k) =
    let le = tally_le (same (m, k)) (above s (m, k))
    (λ (l, j) e.
    let p = and_parts (eqb l m) (eqb j k) e in
    let a = eqb-true l m p.0 in
    let b = eqb-true j k p.1 in
    rw (a, b) (under_self s m k)) (boundary s queries t) in
    elim (boundary_one s queries m k t) [ inl z ↦ omega (arith, le, z) | inr o ↦ omega (arith, le, o.0) ]

-- how often the nodes stand in given, in all
met : List (ℕ × ℕ) → List (ℕ × ℕ) → ℕ
met [] given = 0
met (n ∷ nodes) given = tally (λ x. same x n) given + met nodes given

met_none : (nodes : List (ℕ × ℕ)) → met nodes [] ≡ 0
unfolding met tally
met_none [] = refl
met_none (n ∷ nodes) = omega (arith, met_none nodes)

met_more : (nodes : List (ℕ × ℕ)) (x : ℕ × ℕ) (given : List (ℕ × ℕ)) → met nodes (x ∷ given)
    ≡ tally (same x) nodes + met nodes given
unfolding met tally
met_more [] x given = omega arith
met_more (n ∷ nodes) x given = omega (arith, met_more nodes x given)

met_le : (nodes : List (ℕ × ℕ)) → ((x : ℕ × ℕ) → tally (same x) nodes ≤ 1) → (given : List (ℕ × ℕ)) →
    (met nodes given ≤ length given) ×
    ((l j : ℕ) → is_in given l j ≡ true → is_in nodes l j ≡ false → met nodes given < length given)
met_le nodes once [] = (omega (arith, met_none nodes), λ l j e n. absurd (true≢false (sym e)))
met_le nodes once ((m, k) ∷ given) =
    let more = met_more nodes (m, k) given in
    let rest = met_le nodes once given in
    let one = once (m, k) in (
      omega (arith, rest.0),
      λ l j e n. elim (or_cases (eqb m l && eqb k j) (is_in given l j) e) [
        | inl here ↦
            let p = and_parts (eqb m l) (eqb k j) here in
            let a = eqb-true m l p.0 in
            let b = eqb-true k j p.1 in
            let z = tally_none (same (m, k)) nodes (rw (a, b) n) in
            omega (arith, rest.0)
        | inr there ↦ omega (arith, rest.1 l j there n)
      ],
    )

member_met : (given : List (ℕ × ℕ)) (l j : ℕ) → is_in given l j ≡ true → 1 ≤ tally (λ x. same x (l, j)) given
unfolding tally
member_met [] l j e = absurd (true≢false (sym e))
member_met ((m, k) ∷ given) l j e =
    elim (or_cases (eqb m l && eqb k j) (is_in given l j) e) [
      | inl here ↦
          let p = and_parts (eqb m l) (eqb k j) here in
          let t = and_from (eqb l m) (eqb j k) (eq-eqb l m (sym (eqb-true m l p.0)))
          (eq-eqb j k (sym (eqb-true k j p.1))) in
          rw t (omega arith)
      | inr there ↦ omega (arith, member_met given l j there)
    ]

met_ge : (nodes given : List (ℕ × ℕ)) → ((l j : ℕ) → is_in nodes l j ≡ true → is_in given l j ≡ true) →
    length nodes ≤ met nodes given
unfolding met
met_ge [] given each = omega arith
met_ge ((m, k) ∷ nodes) given each =
    let first = member_met given m k
    (each m k (or_left (eqb m m && eqb k k) (is_in nodes m k)
    (and_from (eqb m m) (eqb k k) (eq-eqb m m refl) (eq-eqb k k refl)))) in
    omega (arith, first, met_ge nodes given (λ l j e. each l j (or_right (eqb m l && eqb k j) (is_in nodes l j) e)))

-- a set of no more nodes that suffices has the boundary's members
pub only_the_boundary : (s : Shape) → IsArity s.arity → (queries : List ℕ) (t : ℕ) (given : List (ℕ × ℕ)) →
    IsUncovered s queries t given → Suffices s queries t given →
    length given ≤ length (boundary s queries t) → (l j : ℕ) → is_in given l j ≡ is_in (boundary s queries t) l j
only_the_boundary s w queries t given un enough few l j =
    let least = minimal s w queries t given un enough in
    let held = least.1 (omega (arith, least.0)) in
    let counted = met_le (boundary s queries t) (listed_once s queries t) given in
    let all = met_ge (boundary s queries t) given held in
    elim (cases_Bool (is_in (boundary s queries t) l j)) [
      | inl y ↦ held l j y ∙ sym y
      | inr n ↦ elim (cases_Bool (is_in given l j)) [
        | inl g ↦ absurd (let lt = counted.1 l j g n in omega arith)
        | inr f ↦ f ∙ sym n
      ]
    ]

-- the boundary is uncovered and suffices, and what else does has its members or is longer
pub boundary_least : (s : Shape) (queries : List ℕ) (t : ℕ) → CanQuery s queries t →
    IsLeast s queries t (pruned_len s queries t)
boundary_least s queries t w =
    grind (arith, common_steps, and_parts, cases_lt, not-true, in_boundary, boundary_suffices, only_the_boundary)

-- so is a number that is its length
pub count_least : (s : Shape) (queries : List ℕ) (t count : ℕ) → CanQuery s queries t → count ≡ pruned_len s queries t →
    IsLeast s queries t count
count_least s queries t count w is = subst (IsLeast s queries t) (sym is) (boundary_least s queries t w)
