-- Which entries a walk over ascending entries has passed, and which nodes it comes to.
use Rattle.std.proofs.Common.{◌≡◌, ◌≢◌, ℕ, suc, ◌+◌, ◌*◌, ◌/◌, ◌^◌, ◌<◌, ◌≤◌, true, false, not, List, length, ap, sym}
use Rattle.std.proofs.Common.{◌∙◌, arith, inl, inr, get_or, All, pow_pos, eqb}
use Rattle.std.proofs.lemmas.Bool.{and_from, cases_Bool, cases_lt, eqb-true, lt-ltb, not_from_false, true≢false}
use Rattle.std.proofs.lemmas.List.{get_or_default}
use Rattle.std.proofs.lemmas.List.Folds.{Any-from_list_any}
use Rattle.std.proofs.Math.Nat.{div-eq_of_lt, div-mul-le_self, le-div_iff_mul-le}
use Rattle.p3_merkle_core.specs.Geometry.{Shape, ancestor, levels, step}
use Rattle.p3_merkle_core.specs.Pruning.{is_boundary, is_covered}
use Rattle.p3_merkle_core.proofs.Covered.Equivalence.{query_covered}
use Rattle.tlog_multiproof.specs.Ascending.{IsAscending}
use Rattle.tlog_multiproof.specs.Entries.{is_node}
use Rattle.tlog_multiproof.specs.Inner.Ascents.{IsReached, StandsAt, is_sent}
use Rattle.tlog_multiproof.specs.Instance.{log_shape}
use Rattle.tlog_multiproof.proofs.AscentFacts.{quotient}
use Rattle.tlog_multiproof.proofs.Shapes.{ancestor_of_two, double_slot, root_covers, step_of_two}

-- past all entries of one index
pub stands_past : (indices : List ℕ) (index first k : ℕ) → IsAscending indices → StandsAt indices index first →
    first ≤ k →
    k ≤ length indices → ((i : ℕ) → first ≤ i → i < k → get_or indices i 0 ≡ index) →
    (k < length indices → get_or indices k 0 ≢ index) → StandsAt indices (index + 1) k
stands_past indices index first k up w le inside same other = record {
  within = inside;
  passed = λ i less. elim (cases_lt i first) [
    | inl before ↦ omega (arith, w.passed i before)
    | inr after ↦ omega (arith, same i after less)
  ];
  ahead = λ i past within.
      let low = w.ahead k le (omega arith) in
      let next = up k i past within in
      let ne = other (omega arith) in omega (arith, ne);
}

-- ahead of all
pub stands_start : (indices : List ℕ) (l : ℕ) → StandsAt indices (0 * 2 ^ l) 0
stands_start indices l =
    let z : 0 * 2 ^ l ≡ 0 = omega arith in
    rw z (record {
      within = omega arith;
      passed = λ k less. absurd (omega arith);
      ahead = λ k past inside. omega arith;
    })

module _ (size : ℕ) (indices : List ℕ) where
  abbrev s : Shape
  s = log_shape size

  -- a query is under its ancestors
  pub query_above : (k l j : ℕ) → k < length indices → get_or indices k 0 / 2 ^ l ≡ j →
      is_covered s indices l j ≡ true
  query_above k l j inside is =
      rw (ancestor_of_two size l (get_or indices k 0), is) at (query_covered s indices k l inside)

  -- a covered node is above the next entry
  pub covered_next : (l j next : ℕ) → IsAscending indices → StandsAt indices (j * 2 ^ l) next →
      is_covered s indices l j ≡ true → (next < length indices) × (get_or indices next 0 / 2 ^ l ≡ j)
  covered_next l j next up w c =
      let q = Any-from_list_any (λ i. eqb (ancestor s l i) j) indices c in
      let i = get_or indices q.0 0 in
      let is : ancestor s l i ≡ j = eqb-true (ancestor s l i) j
      (ap (λ x. eqb (ancestor s l x) j) (get_or_default indices q.0 0 q.1 q.2 ∙ q.3) ∙ q.4) in
      let at : i / 2 ^ l ≡ j = sym (ancestor_of_two size l i) ∙ is in
      let low : j * 2 ^ l ≤ i = rw at at (div-mul-le_self i (2 ^ l)) in
      let high : i < (j + 1) * 2 ^ l = elim (cases_lt i ((j + 1) * 2 ^ l)) [
        | inl less ↦ less
        | inr more ↦
            let past : j + 1 ≤ i / 2 ^ l = (le-div_iff_mul-le {x = j + 1} {y = i} (pow_pos l)).1 more in
            absurd (omega arith)
      ] in
      let before : next ≤ q.0 = elim (cases_lt q.0 next) [
        | inl less ↦ let passed = w.passed q.0 less in absurd (omega arith)
        | inr more ↦ more
      ] in
      let inside : next < length indices = omega (arith, q.2) in
      let first = up next q.0 before q.2 in (
        inside,
        quotient (get_or indices next 0) (2 ^ l) j (pow_pos l) (w.ahead next (omega arith) inside) (omega arith),
      )

  -- past a node that is not covered
  pub stands_uncovered : (l j next : ℕ) → is_covered s indices l j ≡ false → StandsAt indices (j * 2 ^ l) next →
      StandsAt indices ((j + 1) * 2 ^ l) next
  stands_uncovered l j next n w =
      let next_is : (j + 1) * 2 ^ l ≡ j * 2 ^ l + 2 ^ l = omega arith in
      record {
        within = w.within;
        passed = λ k less. omega (arith, w.passed k less);
        ahead = λ k past inside. elim (cases_lt (get_or indices k 0) ((j + 1) * 2 ^ l)) [
          | inl less ↦
              let is = quotient (get_or indices k 0) (2 ^ l) j (pow_pos l) (w.ahead k past inside) less in
              absurd (true≢false (sym (query_above k l j inside is) ∙ n))
          | inr more ↦ more
        ];
      }

  -- past a node that has no entries below it
  pub stands_outside : (l j next : ℕ) → All (λ i. i < size) indices → size ≤ j * 2 ^ l →
      StandsAt indices (j * 2 ^ l) next → StandsAt indices ((j + 1) * 2 ^ l) next
  stands_outside l j next below past w =
      let next_is : (j + 1) * 2 ^ l ≡ j * 2 ^ l + 2 ^ l = omega arith in
      record {
        within = w.within;
        passed = λ k less. omega (arith, w.passed k less);
        ahead = λ k from inside. let low = w.ahead k from inside in let high = below k 0 inside in absurd (omega arith);
      }

  -- into the first child, and out of the second
  pub stands_down : (l j next : ℕ) → StandsAt indices (j * 2 ^ suc l) next → StandsAt indices (2 * j * 2 ^ l) next
  stands_down l j next w =
      let none : 2 * j + 0 ≡ 2 * j = omega arith in
      let same : 2 * j * 2 ^ l ≡ j * 2 ^ suc l = rw none at (double_slot j l) in
      rw same w

  pub stands_up : (l j next : ℕ) → StandsAt indices ((2 * j + 1 + 1) * 2 ^ l) next →
      StandsAt indices ((j + 1) * 2 ^ suc l) next
  stands_up l j next w =
      let two : 2 * (j + 1) + 0 ≡ 2 * j + 1 + 1 = omega arith in
      let same : (2 * j + 1 + 1) * 2 ^ l ≡ (j + 1) * 2 ^ suc l = rw two at (double_slot (j + 1) l) in
      rw same at w

  -- the children of a covered node are covered, or sent
  pub child_reached : (l j k : ℕ) → l < levels s → is_covered s indices (suc l) j ≡ true → k / 2 ≡ j →
      IsReached size indices l k
  child_reached l j k low c is = elim (cases_Bool (is_covered s indices l k)) [
    | inl t ↦ inl t
    | inr f ↦ inr (
      low,
      and_from (is_covered s indices (suc l) (k / step s l)) (not (is_covered s indices l k))
          (rw (step_of_two size l, is) c) (not_from_false (is_covered s indices l k) f),
    )
  ]

  -- what is reached and not covered is sent
  pub reached_sent : (l j : ℕ) → j * 2 ^ l < size → is_covered s indices l j ≡ false → IsReached size indices l j →
      (l < levels s) × (is_sent size indices l j ≡ true)
  reached_sent l j inside n r = elim r [
    | inl t ↦ absurd (true≢false (sym t ∙ n))
    | inr b ↦ (b.0, and_from (is_boundary s indices l j) (is_node size (l, j)) b.1 (lt-ltb (j * 2 ^ l) size inside))
  ]

  -- the root is covered
  pub root_covered : 0 < length indices → All (λ i. i < size) indices →
      is_covered s indices (levels s) 0 ≡ true
  root_covered some below =
      query_above 0 (levels s) 0 some (div-eq_of_lt (omega (arith, below 0 0 some, root_covers size)))
