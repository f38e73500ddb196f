-- How far a walk over ascending entries has come: how many digests it has used, and which entries it has passed.
use Rattle.std.proofs.Common.{◌≡◌, ℕ, zero, suc, ◌+◌, ◌-◌, ◌*◌, ◌/◌, ◌^◌, ◌<◌, ◌≤◌, Bool, true, false, not, ◌&&◌}
use Rattle.std.proofs.Common.{List, [], ◌∷◌, ◌++◌, map, filter, refl, ap, sym, ◌∙◌, arith, add-one, inl, inr, length}
use Rattle.std.proofs.Common.{length-append, All, nat_lt, pow_pos, pow-add, mul-le-mul_left, mul-le-mul_right, Option}
use Rattle.std.proofs.Common.{Some, None}
use Rattle.std.proofs.lemmas.Bool.{and_left, and_parts, and_right, cases_Bool, cases_eq, cases_lt}
use Rattle.std.proofs.lemmas.Bool.{false_from_ne_true, ltb-true, true≢false}
use Rattle.std.proofs.lemmas.List.Elements.{filter-append}
use Rattle.std.proofs.Math.Nat.{div-div-eq-div-mul, le-div_iff_mul-le, mul_assoc, pow-succ'}
use Rattle.std.specs.Prelude.{IfSome, slice_index}
use Rattle.std.specs.List.{range_with_len}
use Rattle.p3_merkle_core.specs.Geometry.{Shape, layer_len, levels, step}
use Rattle.p3_merkle_core.specs.Pruning.{boundary, boundary_at, is_boundary, is_covered}
use Rattle.p3_merkle_core.proofs.Covered.CoveredFacts.{covered_listed, group_fits}
use Rattle.p3_merkle_core.proofs.Covered.Under.{covered_up}
use Rattle.p3_merkle_core.proofs.Lists.ListFacts.{joined_more}
use Rattle.p3_merkle_core.proofs.Lists.RisingFacts.{range_joined}
use Rattle.tlog_multiproof.specs.Entries.{is_node}
use Rattle.tlog_multiproof.specs.Inner.Ascents.{AreUsed, is_sent, sent_before}
use Rattle.tlog_multiproof.specs.Instance.{log_shape}
use Rattle.tlog_multiproof.proofs.ShapeFacts.{log_query}
use Rattle.tlog_multiproof.proofs.Shapes.{root_covers, step_of_two}
use Rattle.tlog_multiproof.proofs.Walks.{half_of}

-- ---- numbers

-- a quotient by its bounds
pub quotient : (x k j : ℕ) → 0 < k → j * k ≤ x → x < (j + 1) * k → x / k ≡ j
quotient x k j pos low high =
    let le : j ≤ x / k = (le-div_iff_mul-le {x = j} {y = x} pos).1 low in
    elim (cases_lt (x / k) (j + 1)) [
      | inl less ↦ omega arith
      | inr more ↦ let up : (j + 1) * k ≤ x = (le-div_iff_mul-le {x = j + 1} {y = x} pos).0 more in absurd (omega arith)
    ]

-- the leaves below a slot, layer by layer
pub power_split : (l m : ℕ) → m ≤ l → 2 ^ (l - m) * 2 ^ m ≡ 2 ^ l
power_split l m low = let sum : l - m + m ≡ l = omega arith in sym (pow-add 2 (l - m) m) ∙ ap (λ e. 2 ^ e) sum

pub power_next : (l m : ℕ) → m ≤ l → 2 ^ (suc l - m) ≡ 2 * 2 ^ (l - m)
power_next l m low = let next : suc l - m ≡ suc (l - m) = omega arith in ap (λ e. 2 ^ e) next ∙ pow-succ' 2 (l - m)

-- a slot is below the size if its first leaf is
pub slot_small : (size l j : ℕ) → j * 2 ^ l < size → j < size
slot_small size l j inside =
    let up : j * 1 ≤ j * 2 ^ l = mul-le-mul_left j (pow_pos l) in omega arith

-- ---- options

-- what two facts on a value tell
pub if_both : {X : Type 0} {P Q R : X → Type 0} (o : Option X) → ((x : X) → P x → Q x → R x) → IfSome o P →
    IfSome o Q → IfSome o R
if_both None both p q = tt
if_both (Some x) both p q = both x p q

-- ---- lists

-- how many elements that pass one test pass another
pub kept_both : {X : Type 0} (p : ℕ → Bool) (q : X → Bool) (f : ℕ → X) (xs : List ℕ) →
    length (filter q (map f (filter p xs))) ≡ length (filter (λ j. p j && q (f j)) xs)
kept_both p q f [] = refl
kept_both p q f (x ∷ xs) =
    elim (cases_Bool (p x)) [
      | inl t ↦ elim (cases_Bool (q (f x))) [
        | inl u ↦ rw (t, u) (ap suc (kept_both p q f xs))
        | inr u ↦ rw (t, u) (kept_both p q f xs)
      ]
      | inr n ↦ rw n (kept_both p q f xs)
    ]

module _ (size : ℕ) (indices : List ℕ) where
  abbrev s : Shape
  s = log_shape size

  -- ---- slot by slot

  pub none_before : (l : ℕ) → sent_before size indices l 0 ≡ 0
  unfolding sent_before
  none_before l = refl

  pub sent_skip : (l n : ℕ) → is_sent size indices l n ≡ false →
      sent_before size indices l (suc n) ≡ sent_before size indices l n
  unfolding sent_before
  sent_skip l n f = rw f (omega arith)

  pub sent_next : (l n : ℕ) → is_sent size indices l n ≡ true →
      sent_before size indices l (suc n) ≡ sent_before size indices l n + 1
  unfolding sent_before
  sent_next l n t = rw t refl

  -- slots that count nothing
  pub none_between : (l a d : ℕ) → ((j : ℕ) → a ≤ j → j < a + d → is_sent size indices l j ≡ false) →
      sent_before size indices l (a + d) ≡ sent_before size indices l a
  none_between l a zero none = let z : a + 0 ≡ a = omega arith in rw z refl
  none_between l a (suc d) none =
      let next : a + suc d ≡ suc (a + d) = omega arith in
      rw next (sent_skip l (a + d) (none (a + d) (omega arith) (omega arith))
      ∙ none_between l a d (λ j low high. none j low (omega arith)))

  pub few_before : (l n : ℕ) → sent_before size indices l n ≤ n
  few_before l zero = rw (none_before l) (omega arith)
  few_before l (suc n) =
      elim (cases_Bool (is_sent size indices l n)) [
        | inl t ↦ omega (arith, sent_next l n t, few_before l n)
        | inr f ↦ omega (arith, sent_skip l n f, few_before l n)
      ]

  pub sent_is : (l n : ℕ) → length (filter (is_sent size indices l) (range_with_len 0 n)) ≡ sent_before size indices l n
  sent_is l zero = sym (none_before l)
  sent_is l (suc n) =
      let p = is_sent size indices l in
      let front = range_with_len 0 n in
      let split : range_with_len 0 (suc n) ≡ front ++ n ∷ [] =
      let z : 0 + n ≡ n = omega arith in rw (z, add-one) at (range_joined 0 n 1) in
      ap (λ xs. length (filter p xs)) split ∙ ap length (filter-append p front (n ∷ []))
      ∙ length-append (filter p front) (filter p (n ∷ []))
      ∙ (elim (cases_Bool (p n)) [
        | inl t ↦ rw t (omega (arith, sent_is l n, sent_next l n t))
        | inr f ↦ rw f (omega (arith, sent_is l n, sent_skip l n f))
      ])

  -- ---- what is not counted

  -- the ancestors of a covered node are covered
  covered_above : (l d j : ℕ) → is_covered s indices l j ≡ true → is_covered s indices (l + d) (j / 2 ^ d) ≡ true
  covered_above l zero j c =
      let a : l + 0 ≡ l = omega arith in let b : j / 2 ^ 0 ≡ j = omega arith in rw (a, b) c
  covered_above l (suc d) j c =
      let up = rw (step_of_two size (l + d)) at (covered_up s indices (l + d) (j / 2 ^ d) (covered_above l d j c)) in
      let next : l + suc d ≡ suc (l + d) = omega arith in
      rw (next, half_of j d) up

  -- below an uncovered node
  pub uncovered_none : (l j m x : ℕ) → is_covered s indices l j ≡ false → m < l → j * 2 ^ (l - m) ≤ x →
      x < (j + 1) * 2 ^ (l - m) → is_sent size indices m x ≡ false
  uncovered_none l j m x n low from to =
      let k = l - suc m in
      let half : x / 2 / 2 ^ k ≡ j =
      div-div-eq-div-mul x 2 (2 ^ k) ∙ ap (λ p. x / p) (sym (pow-succ' 2 k))
      ∙ (let e : suc k ≡ l - m = omega arith in rw e (quotient x (2 ^ (l - m)) j (pow_pos (l - m)) from to)) in
      let top : suc m + k ≡ l = omega arith in
      let parent : is_covered s indices (suc m) (x / 2) ≡ false =
      false_from_ne_true (is_covered s indices (suc m) (x / 2)) (λ c.
      true≢false (sym (rw (top, half) at (covered_above (suc m) k (x / 2) c)) ∙ n)) in
      and_left (is_boundary s indices m x) (is_node size (m, x))
      (and_left (is_covered s indices (suc m) (x / step s m)) (not (is_covered s indices m x))
      (rw (step_of_two size m) parent))

  -- of what is covered itself
  pub covered_none : (l j : ℕ) → is_covered s indices l j ≡ true → is_sent size indices l j ≡ false
  covered_none l j c =
      and_left (is_boundary s indices l j) (is_node size (l, j))
      (and_right (is_covered s indices (suc l) (j / step s l)) (not (is_covered s indices l j)) (ap not c))

  -- of what has no entries below it
  pub outside_none : (l j m x : ℕ) → size ≤ j * 2 ^ l → m ≤ l → j * 2 ^ (l - m) ≤ x →
      is_sent size indices m x ≡ false
  outside_none l j m x past low from =
      let more : j * 2 ^ (l - m) * 2 ^ m ≤ x * 2 ^ m = mul-le-mul_right (2 ^ m) from in
      let same : j * 2 ^ (l - m) * 2 ^ m ≡ j * 2 ^ l =
      mul_assoc j (2 ^ (l - m)) (2 ^ m) ∙ ap (λ p. j * p) (power_split l m low) in
      and_right (is_boundary s indices m x) (is_node size (m, x))
      (false_from_ne_true (nat_lt (x * 2 ^ m) size)
      (λ t. let less = ltb-true (x * 2 ^ m) size t in absurd (omega arith)))

  -- ---- layer by layer

  module _ (below : All (λ i. i < size) indices) where
    pub boundary_fits : (l x : ℕ) → l < levels s → layer_len s l ≤ x → is_boundary s indices l x ≡ false
    boundary_fits l x low past =
        false_from_ne_true (is_boundary s indices l x) (λ b.
        let both = and_parts (is_covered s indices (suc l) (x / step s l)) (not (is_covered s indices l x)) b in
        let w = log_query size indices below in
        let fits = group_fits s indices (levels s) w l low (x / step s l)
        (covered_listed s indices (levels s) w (suc l) (x / step s l) (omega arith) both.0) in
        let inside = rw (step_of_two size l) at fits in absurd (omega arith))

    -- past the last node there is nothing to count
    same_past : (l a b : ℕ) → a ≤ b → ((x : ℕ) → a ≤ x → is_sent size indices l x ≡ false) →
        sent_before size indices l b ≡ sent_before size indices l a
    same_past l a b le none =
        let sum : a + (b - a) ≡ b = omega arith in rw sum at (none_between l a (b - a) (λ j low high. none j low))

    pub sent_layer : (l : ℕ) → l < levels s →
        length (filter (is_node size) (boundary_at s indices l)) ≡ sent_before size indices l (2 ^ (levels s - l))
    sent_layer l low =
        let n = layer_len s l in
        let all = 2 ^ (levels s - l) in
        let fits = λ (x : ℕ) (past : n ≤ x). and_left (is_boundary s indices l x) (is_node size (l, x))
        (boundary_fits l x low past) in
        let inside = λ (x : ℕ) (past : all ≤ x). outside_none (levels s) 1 l x
        (omega (arith, root_covers size)) (omega arith) (omega arith) in
        kept_both (is_boundary s indices l) (is_node size) (λ j. (l, j)) (range_with_len 0 n) ∙ sent_is l n
        ∙ (elim (cases_lt n all) [
          | inl less ↦ sym (same_past l n all (omega arith) fits)
          | inr more ↦ same_past l all n (omega arith) inside
        ])

    pub starts_next : (l : ℕ) → l < levels s →
        length (filter (is_node size) (boundary s indices (suc l)))
        ≡ length (filter (is_node size) (boundary s indices l)) + sent_before size indices l (2 ^ (levels s - l))
    starts_next l low =
        ap (λ xs. length (filter (is_node size) xs)) (joined_more (boundary_at s indices) l)
        ∙ ap length (filter-append (is_node size) (boundary s indices l) (boundary_at s indices l))
        ∙ length-append (filter (is_node size) (boundary s indices l)) (filter (is_node size) (boundary_at s indices l))
        ∙ ap (λ n. length (filter (is_node size) (boundary s indices l)) + n) (sent_layer l low)

    -- so they fit
    pub starts_bound : (l : ℕ) → l ≤ levels s →
        length (filter (is_node size) (boundary s indices l)) + 2 * 2 ^ (levels s - l) ≤ 2 * 2 ^ levels s
    starts_bound zero low = let all : levels s - 0 ≡ levels s = omega arith in rw all (omega arith)
    starts_bound (suc l) low =
        let below = starts_bound l (omega arith) in
        let here = few_before l (2 ^ (levels s - l)) in
        let half : 2 ^ (levels s - l) ≡ 2 * 2 ^ (levels s - suc l) =
        let next : levels s - l ≡ suc (levels s - suc l) = omega arith in
        ap (λ e. 2 ^ e) next ∙ pow-succ' 2 (levels s - suc l) in
        omega (arith, starts_next l (omega arith))

  -- ---- how many digests are used

  -- none at the start
  pub used_start : (l : ℕ) (used : List ℕ) → ((m : ℕ) → slice_index used m ≡ 0) → AreUsed size indices l 0 used
  used_start l used none m low =
      let z : 0 * 2 ^ (l - m) ≡ 0 = omega arith in rw z (none m ∙ sym (none_before m))

  -- in the layer itself
  pub used_here : (l j : ℕ) (used : List ℕ) → AreUsed size indices l j used →
      slice_index used l ≡ sent_before size indices l j
  used_here l j used u =
      let z : l - l ≡ 0 = omega arith in
      let one : j * 2 ^ 0 ≡ j = omega arith in rw (z, one) at (u l (omega arith))

  -- a node whose digest is used
  pub used_sent : (l j : ℕ) (old new : List ℕ) → is_sent size indices l j ≡ true → is_covered s indices l j ≡ false →
      AreUsed size indices l j old → slice_index new l ≡ slice_index old l + 1 →
      ((m : ℕ) → m < l → slice_index new m ≡ slice_index old m) → AreUsed size indices l (j + 1) new
  used_sent l j old new sent n used here below m low =
      elim (cases_eq m l) [
        | inl e ↦
            let z : l - l ≡ 0 = omega arith in
            let from : j * 2 ^ 0 ≡ j = omega arith in
            let to : (j + 1) * 2 ^ 0 ≡ suc j = omega arith in
            let was : slice_index old l ≡ sent_before size indices l j = rw (z, from) at (used l (omega arith)) in
            rw (e, z, to) (here ∙ ap (λ n. n + 1) was ∙ sym (sent_next l j sent))
        | inr ne ↦
            let k = 2 ^ (l - m) in
            let next : (j + 1) * k ≡ j * k + k = omega arith in
            below m (omega arith) ∙ used m low ∙ rw next (sym (none_between m (j * k) k (λ x from to.
            uncovered_none l j m x n (omega arith) from (omega arith))))
      ]

  -- a covered leaf
  pub used_leaf : (j : ℕ) (used : List ℕ) → is_covered s indices 0 j ≡ true → AreUsed size indices 0 j used →
      AreUsed size indices 0 (j + 1) used
  used_leaf j used c u m low =
      let z : m ≡ 0 = omega arith in
      let from : j * 2 ^ (0 - 0) ≡ j = omega arith in
      let to : (j + 1) * 2 ^ (0 - 0) ≡ suc j = omega arith in
      rw (z, to) (rw from at (u 0 (omega arith)) ∙ sym (sent_skip 0 j (covered_none 0 j c)))

  -- into the first child
  pub used_down : (l j : ℕ) (used : List ℕ) → AreUsed size indices (suc l) j used →
      AreUsed size indices l (2 * j) used
  used_down l j used u m low =
      let same : j * 2 ^ (suc l - m) ≡ 2 * j * 2 ^ (l - m) = omega (arith, ap (λ p. j * p) (power_next l m low)) in
      rw same at (u m (omega arith))

  -- past a second child that has no entries below it
  pub used_outside : (l j : ℕ) (used : List ℕ) → size ≤ j * 2 ^ l → AreUsed size indices l j used →
      AreUsed size indices l (j + 1) used
  used_outside l j used past u m low =
      let k = 2 ^ (l - m) in
      let next : (j + 1) * k ≡ j * k + k = omega arith in
      u m low ∙ rw next (sym (none_between m (j * k) k (λ x from to. outside_none l j m x past low from)))

  -- out of the second child of a covered node
  pub used_up : (l j : ℕ) (old new : List ℕ) → is_covered s indices (suc l) j ≡ true →
      AreUsed size indices (suc l) j old → slice_index new (suc l) ≡ slice_index old (suc l) →
      AreUsed size indices l (2 * j + 1 + 1) new → AreUsed size indices (suc l) (j + 1) new
  used_up l j old new c was kept u m low =
      elim (cases_eq m (suc l)) [
        | inl e ↦
            let z : suc l - suc l ≡ 0 = omega arith in
            let from : j * 2 ^ 0 ≡ j = omega arith in
            let to : (j + 1) * 2 ^ 0 ≡ suc j = omega arith in
            let before : slice_index old (suc l) ≡ sent_before size indices (suc l) j =
            rw (z, from) at (was (suc l) (omega arith)) in
            rw (e, z, to) (kept ∙ before ∙ sym (sent_skip (suc l) j (covered_none (suc l) j c)))
        | inr ne ↦
            let le : m ≤ l = omega arith in
            let same : (2 * j + 1 + 1) * 2 ^ (l - m) ≡ (j + 1) * 2 ^ (suc l - m) =
            omega (arith, ap (λ p. (j + 1) * p) (power_next l m le)) in
            rw same at (u m le)
      ]
