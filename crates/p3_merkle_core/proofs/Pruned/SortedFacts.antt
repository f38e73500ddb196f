-- The slots of queries, by a walk over the queries in the order of their indices.
use Rattle.std.proofs.Common.{◌≡◌, ◌∙◌, ℕ, ◌+◌, ◌-◌, ◌<◌, ◌≤◌, ◌⊎◌, ◌++◌, ◌∷◌, [], List, arith, ap, sym, eqb, get_or}
use Rattle.std.proofs.Common.{inl, inr, length, length-append, map, refl, set, take}
use Rattle.std.proofs.lemmas.Grind.{common_steps}
use Rattle.std.proofs.Math.Seq.{get_or-append_seam}
use Rattle.std.proofs.lemmas.List.{get_or-map, length-set}
use Rattle.std.proofs.lemmas.List.{get_or-set_same, get_or-set_other, get_or_append_left, length-map, get_or_default}
use Rattle.std.proofs.lemmas.List.FromFn.{get_or-map-range_with_len, length-map-range_with_len}
use Rattle.std.proofs.lemmas.List.Sorted.{All-permutation, Contains-permutation}
use Rattle.std.proofs.lemmas.Bool.{cases_eq}
use Rattle.std.specs.List.{dedup, range_with_len}
use Rattle.std.specs.List.Sorted.{IsPermutation, IsSorted}
use Rattle.std.specs.Ordering.{nat_cmp, ordering_then}
use Rattle.p3_merkle_core.specs.Inner.Agreement.{distinct, AreSlots, AreSorted, IsSlot}
use Rattle.p3_merkle_core.proofs.Lists.DedupFacts.{dropped, stays}
use Rattle.p3_merkle_core.proofs.Pruned.SlotFacts.{found_at, sorted_by_index}

-- a query with its index
abbrev with_index : List ℕ → ℕ → ℕ × ℕ
with_index indices k = (get_or indices k 0, k)

-- what a sort of the queries leaves
pub sorted_from : (indices : List ℕ) (queries sorted : List (ℕ × ℕ)) → map (λ q. q.0) queries ≡ indices →
    queries ≡ map (λ k. (get_or indices k 0, k)) (range_with_len 0 (length indices)) → IsPermutation queries sorted →
    IsSorted (λ x y. ordering_then (nat_cmp x.0 y.0) (nat_cmp x.1 y.1)) sorted → AreSorted sorted indices
sorted_from indices queries sorted is are moved up =
    let n = length indices in
    let long : length queries ≡ n = ap length are ∙ length-map-range_with_len (with_index indices) 0 n in
    let at = λ (k : ℕ) (d : ℕ × ℕ) (h : k < n). ap (λ (qs : List (ℕ × ℕ)). get_or qs k d) are
    ∙ get_or-map-range_with_len (with_index indices) 0 n k k d h (omega arith) in
    let Own : ℕ × ℕ → Type 0 = λ q. (q.1 < n) × (get_or indices q.1 0 ≡ q.0) in
    record {
      once = sorted_by_index indices queries sorted is moved up;
      own = All-permutation Own queries sorted moved (λ k d h.
          let inside : k < n = omega (arith, long) in
          rw (at k d inside) (inside, refl));
      each = λ k h. Contains-permutation queries sorted (with_index indices k) moved
          (k, omega (arith, long), at k (with_index indices k) h);
    }

-- the first k of the sorted queries: their distinct indices, and the slot of each among these
pub record IsSlotted (sorted : List (ℕ × ℕ)) (count k previous : ℕ) (distinct slots : List ℕ) : Type 0 where
  pub once : distinct ≡ dedup eqb (take k (map (λ (q : ℕ × ℕ). q.0) sorted))
  pub before : 0 < k → previous ≡ (get_or sorted (k - 1) (0, 0)).0
  pub at_last : 0 < k → (0 < length distinct) × (get_or distinct (length distinct - 1) 0 ≡ previous)
  pub long : length slots ≡ count
  pub each : (j : ℕ) → j < k → let slot = get_or slots (get_or sorted j (0, 0)).1 0 in
      (slot < length distinct) × (get_or distinct slot 0 ≡ (get_or sorted j (0, 0)).0)

-- one query more
pub slotted_next : (sorted : List (ℕ × ℕ)) (queries : List ℕ) → AreSorted sorted queries →
    (k previous : ℕ) (old new slots : List ℕ) → k < length sorted →
    IsSlotted sorted (length queries) k previous old slots → let (i, q) = get_or sorted k (0, 0) in
    ((new ≡ old ++ i ∷ []) × (0 < k → previous ≡ i → ⊥)) ⊎ ((new ≡ old) × (0 < k) × (previous ≡ i)) →
    IsSlotted sorted (length queries) (k + 1) i new (set slots q (length new - 1))
slotted_next sorted queries own k previous old new slots h so_far turn =
    let key = λ (q : ℕ × ℕ). q.0 in
    let keys = map key sorted in
    let i = (get_or sorted k (0, 0)).0 in
    let q = (get_or sorted k (0, 0)).1 in
    let v = length new - 1 in
    let at : (j : ℕ) → j < length sorted → get_or keys j 0 ≡ (get_or sorted j (0, 0)).0 =
    λ j l. get_or-map key sorted j (0, 0) 0 l in
    let inside : k < length keys = omega (arith, length-map sorted key) in
    let here = at k h in
    let back : k + 1 - 1 ≡ k = omega arith in
    let last : (0 < length new) × (get_or new (length new - 1) 0 ≡ i) = elim turn [
      | inl t ↦
          let more : length new ≡ length old + 1 = ap length t.0 ∙ length-append old (i ∷ []) in
          let seat : length new - 1 ≡ length old = omega arith in
          (omega arith, rw seat (rw t.0 (get_or-append_seam old i [] 0)))
      | inr t ↦ let was = so_far.at_last t.1 in rw t.0 (was.0, was.1 ∙ t.2)
    ] in
    let wider : (j : ℕ) → j < length old → (j < length new) × (get_or new j 0 ≡ get_or old j 0) = λ j l. elim turn [
      | inl t ↦ (
        omega (arith, ap length t.0, length-append old (i ∷ [])),
        rw t.0 (get_or_append_left old (i ∷ []) 0 j l),
      )
      | inr t ↦ rw t.0 (l, refl)
    ] in
    let known : (j : ℕ) → j < length sorted → get_or queries (get_or sorted j (0, 0)).1 0 ≡ (get_or sorted j (0, 0)).0 =
    λ j l. (own.own j (0, 0) l).1 in
    record {
      once = elim turn [
        | inl t ↦ t.0 ∙ ap (λ (ys : List ℕ). ys ++ i ∷ []) so_far.once
            ∙ ap (λ y. dedup eqb (take k keys) ++ y ∷ []) (sym here)
            ∙ sym (stays keys k inside (λ p e. t.1 p (so_far.before p ∙ sym (at (k - 1) (omega arith)) ∙ e ∙ here)))
        | inr t ↦ t.0 ∙ so_far.once
            ∙ sym (dropped keys k inside t.1
            (at (k - 1) (omega arith) ∙ sym (so_far.before t.1) ∙ t.2 ∙ sym here))
      ];
      before = λ p. rw back refl;
      at_last = λ p. last;
      long = length-set slots q v ∙ so_far.long;
      each = λ j l.
          let there = (own.own k (0, 0) h).0 in
          let qj = (get_or sorted j (0, 0)).1 in
          elim (cases_eq qj q) [
            | inl e ↦
                let written : get_or (set slots q v) qj 0 ≡ v =
                rw e (get_or-set_same slots q v 0 (omega (arith, so_far.long))) in
                let same : i ≡ (get_or sorted j (0, 0)).0 =
                sym (known k h) ∙ ap (λ (x : ℕ). get_or queries x 0) (sym e) ∙ known j (omega arith) in
                rw written (omega (arith, last.0), last.1 ∙ same)
            | inr ne ↦
                let other : get_or (set slots q v) qj 0 ≡ get_or slots qj 0 = get_or-set_other slots q qj v 0 ne in
                let earlier : j < k = elim (cases_eq j k) [
                  | inl e ↦ absurd (ne (ap (λ (x : ℕ). (get_or sorted x (0, 0)).1) e))
                  | inr n ↦ omega arith
                ] in
                let was = so_far.each j earlier in
                let now = wider (get_or slots qj 0) was.0 in
                rw other (now.0, now.1 ∙ was.1)
          ];
    }

-- all queries
pub slotted_all : (sorted : List (ℕ × ℕ)) (queries : List ℕ) → AreSorted sorted queries → (k previous : ℕ)
    (own slots : List ℕ) → length sorted ≤ k → IsSlotted sorted (length queries) k previous own slots →
    own ≡ distinct queries
slotted_all sorted queries are k previous own slots h w = grind (arith, common_steps)

pub slots_all : (sorted : List (ℕ × ℕ)) (queries : List ℕ) → AreSorted sorted queries → (k previous : ℕ)
    (own slots : List ℕ) → length sorted ≤ k → IsSlotted sorted (length queries) k previous own slots →
    AreSlots slots queries
slots_all sorted queries are k previous own slots h w =
    let all = slotted_all sorted queries are k previous own slots h w in
    record {
      one_each = w.long;
      each = λ j l.
          let there = are.each j l in
          let is : get_or sorted there.0 (0, 0) ≡ (get_or queries j 0, j) =
          get_or_default sorted there.0 (0, 0) (get_or queries j 0, j) there.1 ∙ there.2 in
          let found = rw is at (w.each there.0 (omega arith)) in
          found_at queries (get_or queries j 0) (get_or slots j 0) (rw all at found.0) (rw all at found.1);
    }

-- a slot, as the code reads it
pub slot_read : (slots queries : List ℕ) (k v : ℕ) → AreSlots slots queries → k < length queries →
    v ≡ get_or slots k v → IsSlot queries (get_or queries k 0) v
slot_read slots queries k v are h read =
    let is : get_or slots k 0 ≡ v = sym (read ∙ get_or_default slots k v 0 (omega (arith, are.one_each))) in
    rw is at (are.each k h)
