-- No set of uncovered nodes that suffices has fewer members than the boundary.
use Rattle.std.proofs.Common.{◌≡◌, ℕ, zero, suc, ◌+◌, ◌-◌, ◌*◌, ◌/◌, ◌<◌, ◌≤◌, Bool, true, false, not, eqb, nat_le}
use Rattle.std.proofs.Common.{◌&&◌, List, [], ◌∷◌, ◌++◌, map, refl, sym, ◌∙◌, arith, inl, inr, ◌⊎◌, length, filter}
use Rattle.std.proofs.Common.{eq-eqb, subst, ◌≢◌, ap}
use Rattle.std.proofs.lemmas.Grind.{common_steps}
use Rattle.std.proofs.lemmas.Bool.{cases_Bool, eqb-true, and_parts, and_from, or_cases, or_left, or_right, leb-true}
use Rattle.std.proofs.lemmas.Bool.{not-true, both_ways, true≢false, false_from_ne_true}
use Rattle.std.specs.List.{range_with_len, count_by}
use Rattle.p3_merkle_core.specs.Geometry.{Shape, step, layer_len, IsArity}
use Rattle.p3_merkle_core.specs.Pruning.{up, is_under, is_covered, is_boundary, boundary_at, boundary, is_in, IsKnown}
use Rattle.p3_merkle_core.specs.Pruning.{Suffices, IsUncovered, IsGivenUnder}
use Rattle.p3_merkle_core.proofs.Shapes.StepFacts.{step_above_1}
use Rattle.p3_merkle_core.proofs.Covered.Under.{tally_two, tally_append, up_next, under_parent, under_one, child_parent}
use Rattle.p3_merkle_core.proofs.Covered.Under.{covered_up, member_counts, under_self}
use Rattle.p3_merkle_core.proofs.Lists.ListFacts.{tally, tally_is, joined_more}

-- a node that is known and uncovered is given, or two nodes under it are
pub known_counts : (s : Shape) → IsArity s.arity → (queries : List ℕ) (given : List (ℕ × ℕ)) (l j : ℕ) →
    IsKnown s queries given l j → is_covered s queries l j ≡ false →
    (1 ≤ tally (is_under s l j) given) × ((is_in given l j ≡ true) ⊎ (2 ≤ tally (is_under s l j) given))
known_counts s w queries given zero j (inl h) bare = (member_counts s given zero j h, inl h)
known_counts s w queries given zero j (inr c) bare = absurd (both_ways (is_covered s queries 0 j) bare c)
known_counts s w queries given (suc l) j (inl h) bare = (member_counts s given (suc l) j h, inl h)
known_counts s w queries given (suc l) j (inr k) bare =
    let two = step_above_1 s l w.above_1 in
    let n = step s l in
    let uncovered : (i : ℕ) → i < n → is_covered s queries l (n * j + i) ≡ false =
    λ i h. false_from_ne_true (is_covered s queries l (n * j + i)) (λ c.
    both_ways (is_covered s queries (suc l) j) bare
    (rw (child_parent s l j i h) at (covered_up s queries l (n * j + i) c))) in
    let a = known_counts s w queries given l (n * j + 0) (k.1 0 (omega arith)) (uncovered 0 (omega arith)) in
    let b = known_counts s w queries given l (n * j + 1) (k.1 1 (omega arith)) (uncovered 1 (omega arith)) in
    let sum = tally_two (is_under s l (n * j + 0)) (is_under s l (n * j + 1)) (is_under s (suc l) j)
    (under_parent s l j (n * j + 0) (child_parent s l j 0 (omega arith)))
    (under_parent s l j (n * j + 1) (child_parent s l j 1 (omega arith)))
    (λ x p q. let e = under_one s l (n * j + 0) (n * j + 1) x p q in omega arith) given in
    (omega (arith, a.0, b.0), inr (omega (arith, a.0, b.0)))

-- ---- what a sufficing set makes known

-- a child of a covered node that is known
child_known : (s : Shape) → IsArity s.arity → (queries : List ℕ) (t : ℕ) (given : List (ℕ × ℕ)) →
    IsUncovered s queries t given → (l j : ℕ) → l < t → is_covered s queries (suc l) (j / step s l) ≡ true →
    IsKnown s queries given (suc l) (j / step s l) → IsKnown s queries given l j
child_known s w queries t given un l j h parent is = grind (arith, common_steps)

-- each covered node, d layers below the cap layer
covered_known : (s : Shape) → IsArity s.arity → (queries : List ℕ) (t : ℕ) (given : List (ℕ × ℕ)) →
    IsUncovered s queries t given → Suffices s queries t given →
    (d l j : ℕ) → l + d ≡ t → is_covered s queries l j ≡ true → IsKnown s queries given l j
covered_known s w queries t given un enough zero l j e c =
    let same : l ≡ t = omega arith in rw same (enough j (rw same at c))
covered_known s w queries t given un enough (suc d) l j e c =
    let parent = covered_up s queries l j c in
    child_known s w queries t given un l j (omega arith) parent
    (covered_known s w queries t given un enough d (suc l) (j / step s l) (omega arith) parent)

pub boundary_known : (s : Shape) → IsArity s.arity → (queries : List ℕ) (t : ℕ) (given : List (ℕ × ℕ)) →
    IsUncovered s queries t given → Suffices s queries t given →
    (l j : ℕ) → l < t → is_boundary s queries l j ≡ true → IsKnown s queries given l j
boundary_known s w queries t given un enough l j h b =
    let parent = (and_parts (is_covered s queries (suc l) (j / step s l)) (not (is_covered s queries l j)) b).0 in
    child_known s w queries t given un l j h parent
    (covered_known s w queries t given un enough (t - suc l) (suc l) (j / step s l) (omega arith) parent)

-- ---- each node is under one boundary node at most

-- the tests of the boundary nodes at x
abbrev pub above : Shape → ℕ × ℕ → ℕ × ℕ → Bool
above s x (l, j) = is_under s l j x

under_is : (s : Shape) (l j m k : ℕ) → is_under s l j (m, k) ≡ (nat_le m l && eqb (up s m k (l - m)) j)
unfolding is_under
under_is s l j m k = refl

-- what is counted in a layer: the one ancestor there, if it is on the boundary
layer_tally : Shape → ℕ × ℕ → (ℕ → Bool) → ℕ → ℕ → ℕ → ℕ
layer_tally s x p l a n = tally (above s x) (map (λ j. (l, j)) (filter p (range_with_len a n)))

layer_zero : (s : Shape) (m k : ℕ) (p : ℕ → Bool) (l a n : ℕ) → up s m k (l - m) < a → layer_tally s (m, k) p l a n ≡ 0
unfolding tally layer_tally
layer_zero s m k p l a zero h = refl
layer_zero s m k p l a (suc n) h = grind (arith, common_steps, layer_zero s m k p l (a + 1) n (omega arith), under_is)

layer_one : (s : Shape) (m k : ℕ) (p : ℕ → Bool) (l a n : ℕ) →
    (layer_tally s (m, k) p l a n ≡ 0) ⊎ ((layer_tally s (m, k) p l a n ≡ 1) × (m ≤ l) × (p (up s m k (l - m)) ≡ true))
unfolding tally layer_tally
layer_one s m k p l a zero = inl refl
layer_one s m k p l a (suc n) =
    elim (cases_Bool (p a)) [
      | inl t ↦ elim (cases_Bool (is_under s l a (m, k))) [
        | inl u ↦
            let q = and_parts (nat_le m l) (eqb (up s m k (l - m)) a) (sym (under_is s l a m k) ∙ u) in
            let r = eqb-true (up s m k (l - m)) a q.1 in
            let z = layer_zero s m k p l (a + 1) n (omega arith) in
            inr (rw (t, u) (omega (arith, z)), leb-true m l q.0, rw r t)
        | inr v ↦ rw (t, v)
            (elim (layer_one s m k p l (a + 1) n) [
              | inl z ↦ inl (omega (arith, z))
              | inr o ↦ inr (omega (arith, o.0), o.1, o.2)
            ])
      ]
      | inr f ↦ rw f (layer_one s m k p l (a + 1) n)
    ]

-- either no boundary node below layer t is above x, or just one, and x's ancestors from there on are covered
pub boundary_one : (s : Shape) (queries : List ℕ) (m k t : ℕ) →
    (tally (above s (m, k)) (boundary s queries t) ≡ 0)
    ⊎ ((tally (above s (m, k)) (boundary s queries t) ≡ 1) × (m ≤ t) ×
    (is_covered s queries t (up s m k (t - m)) ≡ true))
unfolding tally layer_tally
boundary_one s queries m k zero = inl refl
boundary_one s queries m k (suc t) =
    let here = layer_one s m k (is_boundary s queries t) t 0 (layer_len s t) in
    let split = ap (λ xs. tally (above s (m, k)) xs) (joined_more (boundary_at s queries) t)
    ∙ tally_append (above s (m, k)) (boundary s queries t) (boundary_at s queries t) in
    let v = up s m k (t - m) in
    elim (boundary_one s queries m k t) [
      | inl none ↦ elim here [
        | inl z ↦ inl (omega (arith, split, none, z))
        | inr o ↦ inr (
          omega (arith, split, none, o.0),
          omega (arith, o.1),
          rw (up_next s m k t o.1)
              (and_parts (is_covered s queries (suc t) (v / step s t)) (not (is_covered s queries t v)) o.2).0,
        )
      ]
      | inr below ↦ elim here [
        | inl z ↦ inr (
          omega (arith, split, below.0, z),
          omega (arith, below.1),
          rw (up_next s m k t below.1) (covered_up s queries t v below.2),
        )
        | inr o ↦ absurd
            (both_ways (is_covered s queries t v)
            (not-true (is_covered s queries t v)
            (and_parts (is_covered s queries (suc t) (v / step s t)) (not (is_covered s queries t v)) o.2).1) below.2)
      ]
    ]

-- ---- counting twice

-- the members of given under each of some nodes, in all
under_all : Shape → List (ℕ × ℕ) → List (ℕ × ℕ) → ℕ
under_all s [] given = 0
under_all s ((l, j) ∷ nodes) given = tally (is_under s l j) given + under_all s nodes given

under_none : (s : Shape) (nodes : List (ℕ × ℕ)) → under_all s nodes [] ≡ 0
unfolding tally under_all
under_none s [] = refl
under_none s ((l, j) ∷ nodes) = omega (arith, under_none s nodes)

under_more : (s : Shape) (nodes : List (ℕ × ℕ)) (x : ℕ × ℕ) (given : List (ℕ × ℕ)) → under_all s nodes (x ∷ given)
    ≡ tally (above s x) nodes + under_all s nodes given
unfolding tally under_all
under_more s [] x given = omega arith
under_more s ((l, j) ∷ nodes) x given = omega (arith, under_more s nodes x given)

under_boundary : (s : Shape) (queries : List ℕ) (t : ℕ) (given : List (ℕ × ℕ)) →
    under_all s (boundary s queries t) given ≤ length given
under_boundary s queries t [] = omega (arith, under_none s (boundary s queries t))
under_boundary s queries t ((m, k) ∷ given) =
    grind (arith, common_steps, under_boundary s queries t given, boundary_one, under_more)

-- nodes that have a member under each are no more than the members, and fewer if one is no member itself
enough_under : (s : Shape) (nodes given : List (ℕ × ℕ)) →
    ((l j : ℕ) → is_in nodes l j ≡ true → (1 ≤ tally (is_under s l j) given) ×
    ((is_in given l j ≡ true) ⊎ (2 ≤ tally (is_under s l j) given))) →
    (length nodes ≤ under_all s nodes given) ×
    (under_all s nodes given ≤ length nodes → (l j : ℕ) → is_in nodes l j ≡ true → is_in given l j ≡ true)
unfolding under_all
enough_under s [] given each = (omega arith, λ h l j e. absurd (true≢false (sym e)))
enough_under s ((m, k) ∷ nodes) given each =
    let first = each m k
    (or_left (eqb m m && eqb k k) (is_in nodes m k)
    (and_from (eqb m m) (eqb k k) (eq-eqb m m refl) (eq-eqb k k refl))) in
    let rest = enough_under s nodes given (λ l j e. each l j (or_right (eqb m l && eqb k j) (is_in nodes l j) e)) in (
      omega (arith, first.0, rest.0),
      λ h l j e. elim (or_cases (eqb m l && eqb k j) (is_in nodes l j) e) [
        | inl same ↦
            let p = and_parts (eqb m l) (eqb k j) same in
            let a = eqb-true m l p.0 in
            let b = eqb-true k j p.1 in
            rw (← a, ← b) (elim first.1 [ inl member ↦ member | inr two ↦ absurd (omega (arith, rest.0, two, h)) ])
        | inr other ↦ rest.1 (omega (arith, first.0, h)) l j other
      ],
    )

-- a member of the boundary is a boundary node below the cap layer
in_layer : (s : Shape) (queries : List ℕ) (p : ℕ → Bool) (m a n l j : ℕ) →
    is_in (map (λ j. (m, j)) (filter p (range_with_len a n))) l j ≡ true → (l ≡ m) × (p j ≡ true)
in_layer s queries p m a zero l j e = absurd (true≢false (sym e))
in_layer s queries p m a (suc n) l j e =
    elim (cases_Bool (p a)) [
      | inl t ↦ elim
          (or_cases (eqb m l && eqb a j) (is_in (map (λ j. (m, j)) (filter p (range_with_len (a + 1) n))) l j)
          (rw t at e)) [
            | inl same ↦
                let q = and_parts (eqb m l) (eqb a j) same in
                (sym (eqb-true m l q.0), rw (← eqb-true a j q.1) t)
            | inr other ↦ in_layer s queries p m (a + 1) n l j other
          ]
      | inr f ↦ in_layer s queries p m (a + 1) n l j (rw f at e)
    ]

in_append : (xs ys : List (ℕ × ℕ)) (l j : ℕ) → is_in (xs ++ ys) l j ≡ true → (is_in xs l j ≡ true) ⊎
    (is_in ys l j ≡ true)
in_append [] ys l j e = inr e
in_append ((m, k) ∷ xs) ys l j e = grind (arith, common_steps)

pub in_boundary : (s : Shape) (queries : List ℕ) (t l j : ℕ) → is_in (boundary s queries t) l j ≡ true →
    (l < t) × (is_boundary s queries l j ≡ true)
in_boundary s queries zero l j e = absurd (true≢false (sym e))
in_boundary s queries (suc t) l j e =
    elim (in_append (boundary s queries t) (boundary_at s queries t) l j
    (ap (λ xs. is_in xs l j) (sym (joined_more (boundary_at s queries) t)) ∙ e)) [
      | inl a ↦ let r = in_boundary s queries t l j a in (omega (arith, r.0), r.1)
      | inr b ↦ let r = in_layer s queries (is_boundary s queries t) t 0 (layer_len s t) l j b in
          (omega (arith, r.0), rw r.0 r.1)
    ]

-- a set of uncovered nodes that suffices has at least as many members as the boundary, and with as many it has the
-- boundary's
pub minimal : (s : Shape) → IsArity s.arity → (queries : List ℕ) (t : ℕ) (given : List (ℕ × ℕ)) →
    IsUncovered s queries t given → Suffices s queries t given →
    (length (boundary s queries t) ≤ length given) ×
    (length given ≡ length (boundary s queries t) → (l j : ℕ) → is_in (boundary s queries t) l j ≡ true →
    is_in given l j ≡ true)
minimal s w queries t given un enough =
    let top = under_boundary s queries t given in
    let each = enough_under s (boundary s queries t) given (λ l j e.
    let b = in_boundary s queries t l j e in
    known_counts s w queries given l j (boundary_known s w queries t given un enough l j b.0 b.1)
    (not-true (is_covered s queries l j)
    (and_parts (is_covered s queries (suc l) (j / step s l)) (not (is_covered s queries l j)) b.1).1)) in
    (omega (arith, each.0, top), λ same. each.1 (omega (arith, top)))

-- no node is under two boundary nodes
pub apart : (s : Shape) (queries : List ℕ) (t : ℕ) (x : ℕ × ℕ) →
    count_by (λ (l, j). is_under s l j x) (boundary s queries t) ≤ 1
apart s queries t (m, k) =
    rw (← tally_is (above s (m, k)) (boundary s queries t))
    (elim (boundary_one s queries m k t) [ inl z ↦ omega (arith, z) | inr o ↦ omega (arith, o.0) ])

-- a node that is known and uncovered has a given node under it, which is itself, or it has two
known_held : (s : Shape) → IsArity s.arity → (queries : List ℕ) (given : List (ℕ × ℕ)) (l j : ℕ) →
    IsKnown s queries given l j → is_covered s queries l j ≡ false →
    ((x : ℕ × ℕ) × IsGivenUnder s given l j x) ×
    ((is_in given l j ≡ true) ⊎
    ((x : ℕ × ℕ) × (y : ℕ × ℕ) × IsGivenUnder s given l j x × IsGivenUnder s given l j y × (x ≢ y)))
known_held s w queries given zero j (inl h) bare = (((zero, j), (h, under_self s zero j)), inl h)
known_held s w queries given zero j (inr c) bare = absurd (both_ways (is_covered s queries 0 j) bare c)
known_held s w queries given (suc l) j (inl h) bare = (((suc l, j), (h, under_self s (suc l) j)), inl h)
known_held s w queries given (suc l) j (inr k) bare =
    let two = step_above_1 s l w.above_1 in
    let n = step s l in
    let child : (i : ℕ) → i < n → (x : ℕ × ℕ) × IsGivenUnder s given l (n * j + i) x =
    λ i h. (known_held s w queries given l (n * j + i) (k.1 i h)
    (false_from_ne_true (is_covered s queries l (n * j + i)) (λ c.
    both_ways (is_covered s queries (suc l) j) bare
    (rw (child_parent s l j i h) at (covered_up s queries l (n * j + i) c))))).0 in
    let first = child 0 (omega arith) in
    let second = child 1 (omega arith) in
    let x = first.0 in
    let y = second.0 in
    let here : IsGivenUnder s given (suc l) j x =
    (first.1.0, under_parent s l j (n * j + 0) (child_parent s l j 0 (omega arith)) x (first.1.1)) in
    let there : IsGivenUnder s given (suc l) j y =
    (second.1.0, under_parent s l j (n * j + 1) (child_parent s l j 1 (omega arith)) y (second.1.1)) in
    let different :
    x ≢ y = λ e. (let z =
    under_one s l (n * j + 0) (n * j + 1) x (first.1.1)
    (subst (λ (v : ℕ × ℕ). is_under s l (n * j + 1) v ≡ true) (sym e) (second.1.1)) in omega arith) in
    ((x, here), inr (x, y, here, there, different))

-- a set that suffices holds each boundary node, or two different nodes under it
pub held : (s : Shape) → IsArity s.arity → (queries : List ℕ) (t : ℕ) (given : List (ℕ × ℕ)) →
    IsUncovered s queries t given → Suffices s queries t given →
    (l j : ℕ) → is_in (boundary s queries t) l j ≡ true → (is_in given l j ≡ true) ⊎
    ((x : ℕ × ℕ) × (y : ℕ × ℕ) × IsGivenUnder s given l j x × IsGivenUnder s given l j y × (x ≢ y))
held s w queries t given un enough l j e =
    let b = in_boundary s queries t l j e in
    (known_held s w queries given l j (boundary_known s w queries t given un enough l j b.0 b.1)
    (not-true (is_covered s queries l j)
    (and_parts (is_covered s queries (suc l) (j / step s l)) (not (is_covered s queries l j)) b.1).1)).1
