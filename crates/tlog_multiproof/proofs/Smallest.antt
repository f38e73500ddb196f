-- The nodes of a proof of entries suffice where padding is known, no fewer nodes do, and they are no more than entries.
use Rattle.std.proofs.Common.{◌≡◌, ℕ, zero, suc, ◌+◌, ◌*◌, ◌/◌, ◌^◌, ◌<◌, ◌≤◌, Bool, true, false, not, eqb, nat_lt}
use Rattle.std.proofs.Common.{◌&&◌, List, [], ◌∷◌, ◌++◌, length, filter, map, refl, sym, ◌∙◌, arith, inl, inr, All}
use Rattle.std.proofs.Common.{eq-eqb}
use Rattle.std.proofs.lemmas.Bool.{and_from, and_parts, both_ways, cases_Bool, cases_eq, false_from_ne_true, eqb-true}
use Rattle.std.proofs.lemmas.Bool.{ltb-false, ltb-true, not-true, or_cases, or_left, or_right, true≢false}
use Rattle.std.proofs.lemmas.List.Folds.{list_any-append}
use Rattle.std.proofs.lemmas.List.FromFn.{length-map-range_with_len}
use Rattle.std.specs.Prelude.{◌||◌}
use Rattle.std.specs.List.{range_with_len}
use Rattle.p3_merkle_core.specs.Geometry.{Shape, levels, step}
use Rattle.p3_merkle_core.specs.Pruning.{IsKnown, IsUncovered, Suffices, boundary, is_covered, is_in, is_under}
use Rattle.p3_merkle_core.proofs.Covered.Minimal.{above, boundary_known, boundary_one, in_boundary}
use Rattle.p3_merkle_core.proofs.Covered.Sufficient.{boundary_suffices}
use Rattle.p3_merkle_core.proofs.Covered.Under.{child_parent, covered_up, member_counts, under_parent}
use Rattle.p3_merkle_core.proofs.Lists.ListFacts.{tally}
use Rattle.tlog_multiproof.specs.Entries.{is_node, proof_nodes}
use Rattle.tlog_multiproof.specs.Instance.{log_shape, slots_of}
use Rattle.tlog_multiproof.specs.Laws.{ArePadding}
use Rattle.tlog_multiproof.proofs.NodeSlots.{as_many, slots_back}
use Rattle.tlog_multiproof.proofs.ShapeFacts.{log_query}
use Rattle.tlog_multiproof.proofs.Shapes.{covered_inside, double_slot, step_of_two, two_is_arity}

-- ---- lists

in_both : (xs ys : List (ℕ × ℕ)) (l j : ℕ) → is_in (xs ++ ys) l j ≡ (is_in xs l j || is_in ys l j)
in_both xs ys l j = list_any-append (λ (m, k). eqb m l && eqb k j) xs ys

in_self : (l j : ℕ) (slots : List (ℕ × ℕ)) → is_in ((l, j) ∷ slots) l j ≡ true
in_self l j slots = or_left (eqb l l && eqb j j) (is_in slots l j)
    (and_from (eqb l l) (eqb j j) (eq-eqb l l refl) (eq-eqb j j refl))

-- what is listed passes or does not
in_parts : (p : ℕ × ℕ → Bool) (slots : List (ℕ × ℕ)) (l j : ℕ) → is_in slots l j ≡ true →
    is_in (filter p slots ++ filter (λ slot. not (p slot)) slots) l j ≡ true
in_parts p [] l j e = e
in_parts p ((m, k) ∷ slots) l j e =
    let here = eqb m l && eqb k j in
    let ins = filter p slots in
    let outs = filter (λ slot. not (p slot)) slots in
    let rest = λ (other : is_in slots l j ≡ true). in_parts p slots l j other in
    elim (cases_Bool (p (m, k))) [
      | inl t ↦ rw t (elim (or_cases here (is_in slots l j) e) [
        | inl same ↦ or_left here (is_in (ins ++ outs) l j) same
        | inr other ↦ or_right here (is_in (ins ++ outs) l j) (rest other)
      ])
      | inr f ↦ rw f (in_both ins ((m, k) ∷ outs) l j ∙ elim (or_cases here (is_in slots l j) e) [
        | inl same ↦ or_right (is_in ins l j) (here || is_in outs l j) (or_left here (is_in outs l j) same)
        | inr other ↦
            elim (or_cases (is_in ins l j) (is_in outs l j) (sym (in_both ins outs l j) ∙ rest other)) [
              | inl a ↦ or_left (is_in ins l j) (here || is_in outs l j) a
              | inr b ↦ or_right (is_in ins l j) (here || is_in outs l j) (or_right here (is_in outs l j) b)
            ]
      ])
    ]

tally_le : {X : Type 0} (p q : X → Bool) → ((x : X) → p x ≡ true → q x ≡ true) → (xs : List X) →
    tally p xs ≤ tally q xs
unfolding tally
tally_le p q more [] = omega arith
tally_le p q more (x ∷ xs) =
    let rest = tally_le p q more xs in
    elim (cases_Bool (p x)) [
      | inl t ↦ let u = more x t in rw (t, u) (omega arith)
      | inr f ↦ rw f (omega arith)
    ]

tally_filter : {X : Type 0} (p q : X → Bool) (xs : List X) → tally p (filter q xs) ≤ tally p xs
unfolding tally
tally_filter p q [] = omega arith
tally_filter p q (x ∷ xs) =
    let rest = tally_filter p q xs in
    elim (cases_Bool (q x)) [ inl t ↦ rw t (omega arith) | inr f ↦ rw f (omega arith) ]

-- ---- counting twice

-- the members of given under each of some nodes, in all
under_all : Shape → List (ℕ × ℕ) → List (ℕ × ℕ) → ℕ
under_all s [] given = 0
under_all s ((l, j) ∷ nodes) given = tally (is_under s l j) given + under_all s nodes given

under_more : (s : Shape) (nodes : List (ℕ × ℕ)) (x : ℕ × ℕ) (given : List (ℕ × ℕ)) →
    under_all s nodes (x ∷ given) ≡ tally (above s x) nodes + under_all s nodes given
unfolding tally under_all
under_more s [] x given = omega arith
under_more s ((l, j) ∷ nodes) x given = omega (arith, under_more s nodes x given)

under_none : (s : Shape) (nodes : List (ℕ × ℕ)) → under_all s nodes [] ≡ 0
unfolding tally under_all
under_none s [] = refl
under_none s ((l, j) ∷ nodes) = omega (arith, under_none s nodes)

-- each member is under one node at most
at_most : (s : Shape) (nodes given : List (ℕ × ℕ)) → ((x : ℕ × ℕ) → tally (above s x) nodes ≤ 1) →
    under_all s nodes given ≤ length given
at_most s nodes [] one = omega (arith, under_none s nodes)
at_most s nodes (x ∷ given) one = omega (arith, under_more s nodes x given, one x, at_most s nodes given one)

-- nodes that have a member under each are no more than these
at_least : (s : Shape) (p : ℕ × ℕ → Bool) (slots given : List (ℕ × ℕ)) →
    ((l j : ℕ) → is_in slots l j ≡ true → p (l, j) ≡ true → 1 ≤ tally (is_under s l j) given) →
    length (filter p slots) ≤ under_all s (filter p slots) given
unfolding under_all
at_least s p [] given each = omega arith
at_least s p ((l, j) ∷ slots) given each =
    let rest = at_least s p slots given
    (λ m k e t. each m k (or_right (eqb l m && eqb j k) (is_in slots m k) e) t) in
    elim (cases_Bool (p (l, j))) [
      | inl t ↦ let here = each l j (in_self l j slots) t in rw t (omega arith)
      | inr f ↦ rw f rest
    ]

-- ---- what is known

-- more nodes make no less known
known_more : (s : Shape) (indices : List ℕ) (some more : List (ℕ × ℕ)) →
    ((l j : ℕ) → is_in some l j ≡ true → is_in more l j ≡ true) → (l j : ℕ) →
    IsKnown s indices some l j → IsKnown s indices more l j
known_more s indices some more all zero j (inl h) = inl (all 0 j h)
known_more s indices some more all zero j (inr c) = inr c
known_more s indices some more all (suc l) j (inl h) = inl (all (suc l) j h)
known_more s indices some more all (suc l) j (inr k) =
    inr (k.0, λ i h. known_more s indices some more all l (step s l * j + i) (k.1 i h))

module _ (size : ℕ) (indices : List ℕ) (below : All (λ i. i < size) indices) where
  abbrev s : Shape
  s = log_shape size

  abbrev slots : List (ℕ × ℕ)
  slots = boundary s indices (levels s)

  -- the slots of the proof's nodes
  abbrev kept : List (ℕ × ℕ)
  kept = filter (is_node size) slots

  rest_is_padding : (nodes : List (ℕ × ℕ)) → ArePadding size (filter (λ slot. not (is_node size slot)) nodes)
  rest_is_padding [] l j e = absurd (true≢false (sym e))
  rest_is_padding ((m, k) ∷ nodes) l j e =
      let rest = filter (λ slot. not (is_node size slot)) nodes in
      elim (cases_Bool (nat_lt (k * 2 ^ m) size)) [
        | inl t ↦ rest_is_padding nodes l j (rw t at e)
        | inr f ↦ elim (or_cases (eqb m l && eqb k j) (is_in rest l j) (rw f at e)) [
          | inl same ↦
              let p = and_parts (eqb m l) (eqb k j) same in
              let a = eqb-true m l p.0 in
              let b = eqb-true k j p.1 in
              rw (← a, ← b) (ltb-false (k * 2 ^ m) size f)
          | inr other ↦ rest_is_padding nodes l j other
        ]
      ]

  pub nodes_suffice : (padding : List (ℕ × ℕ)) × ArePadding size padding ×
      Suffices s indices (levels s) (slots_of (proof_nodes size indices) ++ padding)
  nodes_suffice = (
    filter (λ slot. not (is_node size slot)) slots,
    rest_is_padding slots,
    rw (slots_back kept)
        (λ j c. known_more s indices slots (kept ++ filter (λ slot. not (is_node size slot)) slots)
        (in_parts (is_node size) slots) (levels s) j
        (boundary_suffices s indices (levels s) (log_query size indices below) j c)),
  )

  -- a slot is under one node of the proof at most
  one_above : (x : ℕ × ℕ) → tally (above s x) kept ≤ 1
  one_above (m, k) =
      let one : tally (above s (m, k)) slots ≤ 1 = elim (boundary_one s indices m k (levels s)) [
        | inl none ↦ omega arith
        | inr one ↦ let is = one.0 in omega arith
      ] in
      omega (arith, one, tally_filter (above s (m, k)) (is_node size) slots)

  -- each node has an entry under it
  abbrev leaves_from : ℕ → ℕ → List (ℕ × ℕ)
  leaves_from a n = map (λ k. (0, k)) (range_with_len a n)

  leaf_listed : (j a n : ℕ) → a ≤ j → j < a + n → is_in (leaves_from a n) 0 j ≡ true
  leaf_listed j a zero from to = absurd (omega arith)
  leaf_listed j a (suc n) from to =
      elim (cases_eq a j) [
        | inl same ↦
            or_left (eqb 0 0 && eqb a j) (is_in (leaves_from (a + 1) n) 0 j)
            (and_from (eqb 0 0) (eqb a j) refl (eq-eqb a j same))
        | inr other ↦
            or_right (eqb 0 0 && eqb a j) (is_in (leaves_from (a + 1) n) 0 j)
            (leaf_listed j (a + 1) n (omega arith) (omega arith))
      ]

  leaf_under : (l j : ℕ) → j * 2 ^ l < size → 1 ≤ tally (is_under s l j) (leaves_from 0 size)
  leaf_under zero j real = member_counts s (leaves_from 0 size) 0 j (leaf_listed j 0 size (omega arith) (omega arith))
  leaf_under (suc l) j real =
      let n = step s l in
      let two = step_of_two size l in
      let first = n * j + 0 in
      let up : first / n ≡ j = child_parent s l j 0 (omega arith) in
      let inside : first * 2 ^ l < size = rw (two, double_slot j l) real in
      let below_it = leaf_under l first inside in
      let more = tally_le (is_under s l first) (is_under s (suc l) j) (under_parent s l j first up) (leaves_from 0 size)
      in
      omega arith

  pub nodes_within : length (proof_nodes size indices) ≤ size
  nodes_within =
      let least : length kept ≤ under_all s kept (leaves_from 0 size) =
      at_least s (is_node size) slots (leaves_from 0 size)
      (λ l j h node. leaf_under l j (ltb-true (j * 2 ^ l) size node)) in
      let most : under_all s kept (leaves_from 0 size) ≤ length (leaves_from 0 size) =
      at_most s kept (leaves_from 0 size) one_above in
      let count : length (leaves_from 0 size) ≡ size = length-map-range_with_len (λ k. (0, k)) 0 size in
      omega (arith, as_many kept)

  module _ (given padding : List (ℕ × ℕ)) (absent : ArePadding size padding)
      (bare : IsUncovered s indices (levels s) given)
      (enough : Suffices s indices (levels s) (given ++ padding)) where
    listed_holds : (l j : ℕ) → is_in (given ++ padding) l j ≡ true → j * 2 ^ l < size →
        1 ≤ tally (is_under s l j) given
    listed_holds l j h real =
        elim (or_cases (is_in given l j) (is_in padding l j) (sym (in_both given padding l j) ∙ h)) [
          | inl in_given ↦ member_counts s given l j in_given
          | inr in_padding ↦ let past = absent l j in_padding in absurd (omega arith)
        ]

    -- a node that is known and uncovered has a given one under it: along the first children
    known_holds : (l j : ℕ) → IsKnown s indices (given ++ padding) l j → is_covered s indices l j ≡ false →
        j * 2 ^ l < size → 1 ≤ tally (is_under s l j) given
    known_holds zero j (inl h) out real = listed_holds 0 j h real
    known_holds zero j (inr c) out real = absurd (both_ways (is_covered s indices 0 j) out c)
    known_holds (suc l) j (inl h) out real = listed_holds (suc l) j h real
    known_holds (suc l) j (inr k) out real =
        let n = step s l in
        let two = step_of_two size l in
        let first = n * j + 0 in
        let up : first / n ≡ j = child_parent s l j 0 (omega arith) in
        let uncovered : is_covered s indices l first ≡ false =
        false_from_ne_true (is_covered s indices l first) (λ c.
        both_ways (is_covered s indices (suc l) j) out (rw up at (covered_up s indices l first c))) in
        let inside : first * 2 ^ l < size = rw (two, double_slot j l) real in
        let below_it = known_holds l first (k.1 0 (omega arith)) uncovered inside in
        let more = tally_le (is_under s l first) (is_under s (suc l) j) (under_parent s l j first up) given in
        omega arith

    uncovered_all : IsUncovered s indices (levels s) (given ++ padding)
    uncovered_all l j low h =
        elim (or_cases (is_in given l j) (is_in padding l j) (sym (in_both given padding l j) ∙ h)) [
          | inl in_given ↦ bare l j low in_given
          | inr in_padding ↦ false_from_ne_true (is_covered s indices l j) (λ c.
              let past = absent l j in_padding in
              let inside = covered_inside size indices below l j c in absurd (omega arith))
        ]

    boundary_holds : (l j : ℕ) → is_in slots l j ≡ true → is_node size (l, j) ≡ true →
        1 ≤ tally (is_under s l j) given
    boundary_holds l j h node =
        let b = in_boundary s indices (levels s) l j h in
        let parts = and_parts (is_covered s indices (suc l) (j / step s l)) (not (is_covered s indices l j)) b.1 in
        known_holds l j
        (boundary_known s two_is_arity indices (levels s) (given ++ padding) uncovered_all enough l j b.0 b.1)
        (not-true (is_covered s indices l j) parts.1) (ltb-true (j * 2 ^ l) size node)

    pub fewest_nodes : length (proof_nodes size indices) ≤ length given
    fewest_nodes =
        let least = at_least s (is_node size) slots given boundary_holds in
        let most = at_most s kept given one_above in
        omega (arith, as_many kept)
