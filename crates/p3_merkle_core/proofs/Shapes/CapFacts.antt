-- How far below the root a cap may be under the lowered rule: all steps above the layer of the shortest matrix are
-- whole.
use Rattle.std.proofs.Common.{◌≡◌, ℕ, zero, suc, ◌+◌, ◌-◌, ◌*◌, ◌<◌, ◌≤◌, true, false, eqb, List, [], ◌∷◌, min, refl}
use Rattle.std.proofs.Common.{ap, sym, ◌∙◌, arith, inl, inr, add-suc, length, get_or}
use Rattle.std.proofs.lemmas.Bool.{and_right, cases_eq, cases_lt, cond-false, eq-eqb, eqb-true, le-leb, le-ltb}
use Rattle.std.proofs.lemmas.Bool.{leb-true, ne_eqb}
use Rattle.std.proofs.Math.Nat.{suc-mul}
use Rattle.std.proofs.lemmas.List.Folds.{Any-from_list_any, list_any_at, list_any_none}
use Rattle.std.proofs.lemmas.Grind.{common_steps}
use Rattle.std.specs.Prelude.{All, IsTrue}
use Rattle.std.specs.Int.{div_ceil}
use Rattle.p3_merkle_core.specs.Caps.{cap_layer, levels_above_rows}
use Rattle.p3_merkle_core.specs.Geometry.{Shape, IsArity, layer_of, levels}
use Rattle.p3_merkle_core.specs.Geometry.{exponent, has_rows, heights, is_bridge, layer_below_root, layer_exponent}
use Rattle.p3_merkle_core.specs.Inner.Shapes.{shortest}
use Rattle.p3_merkle_core.specs.Checks.{is_authenticated}
use Rattle.p3_merkle_core.specs.declared.cap.CapRule.TheVariants.{Lowered, Fixed}
use Rattle.p3_support.specs.Batches.{greatest}
use Rattle.p3_merkle_core.proofs.Shapes.QuotientFacts.{ceil_below, ceil_covers}
use Rattle.p3_merkle_core.proofs.Shapes.LeastFacts.{exponent_le, least_passes, shortest_there}
use Rattle.p3_merkle_core.proofs.Shapes.LeastFacts.{exponent_mono, least_bound, least_height_below, least_is, least_le}
use Rattle.p3_merkle_core.proofs.Shapes.StepFacts.{next_exponent, whole_step_falls}
use Rattle.p3_merkle_core.proofs.Shapes.LadderFacts.{exponent_at_levels, layer_of_is, levels_le}
use Rattle.p3_merkle_core.proofs.Shapes.FallFacts.{falls_above}

-- ---- the steps from an exponent that no matrix is below

module _ (s : Shape) (w : IsArity s.arity) (x : ℕ) (low : All (λ h. x ≤ exponent h) (heights s)) where
  -- none is a bridge step
  pub no_bridge_from : (y : ℕ) → y ≤ x → is_bridge s y ≡ false
  no_bridge_from y le = grind (arith, common_steps, and_right, le-ltb, list_any_none)

  -- so each takes as much as the arity has
  pub whole_steps : (l : ℕ) → layer_exponent s l ≡ x → (k : ℕ) → layer_exponent s (l + k) ≡ x - k * exponent s.arity
  whole_steps l is zero = let z : l + 0 ≡ l = omega arith in rw z (omega arith)
  whole_steps l is (suc k) =
      let a = exponent s.arity in
      let y = layer_exponent s (l + k) in
      let before : y ≡ x - k * a = whole_steps l is k in
      let next : layer_exponent s (suc (l + k)) ≡ y - a = next_exponent s (l + k)
      ∙ cond-false (is_bridge s y) (y - 1) (y - a) (no_bridge_from y (omega arith)) in
      rw add-suc (omega (arith, suc-mul k a))

  -- and the root is as many levels above as cover the exponent
  pub levels_from : (l : ℕ) → l ≤ levels s → layer_exponent s l ≡ x → levels s ≡ l + div_ceil x (exponent s.arity)
  levels_from l inside is =
      let a = exponent s.arity in
      let z = div_ceil x a in
      let some : 0 < a = whole_step_falls s.arity w.above_1 in
      let end : layer_exponent s (l + z) ≡ 0 = omega (arith, whole_steps l is z, ceil_covers x a some) in
      let upper : levels s ≤ l + z = least_bound (λ k. eqb (layer_exponent s k) 0) (exponent (greatest (heights s)))
      (l + z) (eq-eqb (layer_exponent s (l + z)) 0 end) in
      elim (cases_lt (levels s) (l + z)) [
        | inl short ↦
            let k = levels s - l in
            let sum : l + k ≡ levels s = omega arith in
            let there = rw sum at (whole_steps l is k) in
            absurd (omega (arith, ceil_below x a k some (omega arith), exponent_at_levels s w))
        | inr long ↦ omega arith
      ]

-- ---- the levels above the last layer with rows

-- no layer has rows whose exponent is below those of all matrices
pub no_rows_below : (s : Shape) (x l : ℕ) → All (λ h. x ≤ exponent h) (heights s) → layer_exponent s l < x →
    has_rows s l ≡ false
no_rows_below s x l low less = grind (arith, common_steps, ne_eqb, list_any_none)

-- a matrix's layer has rows
has_own_rows : (s : Shape) → IsArity s.arity → (k : ℕ) → k < length (heights s) →
    has_rows s (layer_of s (get_or (heights s) k 0)) ≡ true
has_own_rows s w k inside =
    let h = get_or (heights s) k 0 in
    let x = layer_exponent s (layer_of s h) in
    list_any_at (λ y. eqb (exponent y) x) (heights s) k 0 inside
    (eq-eqb (exponent h) x (sym (layer_of_is s w k inside)))

above_rows : (s : Shape) → IsArity s.arity → 0 < length (heights s) →
    div_ceil (exponent (shortest (heights s))) (exponent s.arity) ≡ levels_above_rows s
above_rows s w some =
    let hs = heights s in
    let there = shortest_there hs some in
    let i = there.0 in
    let x = exponent (shortest hs) in
    let a = exponent s.arity in
    let z = div_ceil x a in
    let l = layer_of s (get_or hs i 0) in
    let low : All (λ h. x ≤ exponent h) hs = λ k d inside. exponent_mono (shortest hs) (get_or hs k d)
    (least_height_below (greatest hs) hs k d inside) in
    let is : layer_exponent s l ≡ x = layer_of_is s w i there.1 ∙ ap exponent there.2 in
    let top : l ≤ levels s = least_le _ (levels s) in
    let sum : levels s ≡ l + z = levels_from s w x low l top is in
    sym (least_is (λ k. has_rows s (layer_below_root s k)) (levels s) z (omega arith)
    (λ j less.
    no_rows_below s x (levels s - j) low (rw is at (falls_above s l (levels s - j) w (omega arith) (omega arith))))
    (λ less.
    let at : levels s - z ≡ l = omega arith in
    rw at (has_own_rows s w i there.1)))

-- ---- cap layers

none_tallest : (hs : List ℕ) → length hs ≡ 0 → greatest hs ≡ 0
none_tallest [] e = refl
none_tallest (h ∷ hs) e = absurd (omega arith)

-- the cap layer under the lowered rule, by the shortest height
lowered_is : (s : Shape) → IsArity s.arity → (c : ℕ) →
    levels s - min c (div_ceil (exponent (shortest (heights s))) (exponent s.arity)) ≡ cap_layer s Lowered c
lowered_is s w c =
    elim (cases_eq (length (heights s)) 0) [
      | inl none ↦
          let flat : exponent (greatest (heights s)) ≤ 0 =
          exponent_le (greatest (heights s)) 0 (omega (arith, none_tallest (heights s) none)) in
          omega (arith, levels_le s)
      | inr some ↦ ap (λ r. levels s - min c r) (above_rows s w (omega arith))
    ]

-- by the number of levels and the shortest height
pub lowered_by_numbers : (s : Shape) → IsArity s.arity → (c n h : ℕ) → n ≡ levels s → h ≡ shortest (heights s) →
    n - min c (div_ceil (exponent h) (exponent s.arity)) ≡ cap_layer s Lowered c
lowered_by_numbers s w c n h is_n is_h = rw (is_n, is_h) (lowered_is s w c)

-- the lowered rule leaves no matrix out
pub none_out : (s : Shape) (c k : ℕ) → IsArity s.arity → k < length (heights s) →
    IsTrue (is_authenticated s (cap_layer s Lowered c) k)
none_out s c k w inside =
    let l = layer_of s (get_or (heights s) k 0) in
    let top : l ≤ levels s = least_le _ (levels s) in
    let at : levels s - (levels s - l) ≡ l = omega arith in
    let bound : levels_above_rows s ≤ levels s - l =
    least_bound (λ j. has_rows s (layer_below_root s j)) (levels s) (levels s - l)
    (rw at (has_own_rows s w k inside)) in
    le-leb l (cap_layer s Lowered c) (omega arith)

-- an element that is there is there whatever the default
there_at : (hs : List ℕ) (k d : ℕ) → k < length hs → get_or hs k d ≡ d → get_or hs k 0 ≡ d
there_at [] k d inside e = absurd (omega arith)
there_at (h ∷ hs) zero d inside e = e
there_at (h ∷ hs) (suc k) d inside e = there_at hs k d (omega arith) e

-- a layer with rows that is not above layer t, where no matrix's layer is
rows_at_or_below : (s : Shape) (m t : ℕ) → IsArity s.arity → m ≤ levels s → has_rows s m ≡ true →
    ((k : ℕ) → k < length (heights s) → IsTrue (is_authenticated s t k)) → m ≤ t
rows_at_or_below s m t w inside has all =
    let there = Any-from_list_any (λ h. eqb (exponent h) (layer_exponent s m)) (heights s) has in
    let k = there.0 in
    let h = get_or (heights s) k 0 in
    let l = layer_of s h in
    let low : l ≤ t = leb-true l t (all k there.2) in
    let same : exponent h ≡ layer_exponent s m = ap exponent (there_at (heights s) k there.1 there.2 there.3)
    ∙ eqb-true (exponent there.1) (layer_exponent s m) there.4 in
    elim (cases_lt l m) [
      | inl below ↦ absurd (omega (arith, falls_above s l m w (omega arith) below, layer_of_is s w k there.2))
      | inr above ↦ omega arith
    ]

-- where the fixed rule leaves none out, the rules agree
pub rules_agree : (s : Shape) (c : ℕ) → IsArity s.arity →
    ((k : ℕ) → k < length (heights s) → IsTrue (is_authenticated s (cap_layer s Fixed c) k)) → cap_layer s Lowered c
    ≡ cap_layer s Fixed c
rules_agree s c w all =
    let r = levels_above_rows s in
    let p = λ (j : ℕ). has_rows s (layer_below_root s j) in
    let few : r ≤ levels s = least_le p (levels s) in
    elim (cases_lt r (levels s)) [
      | inl less ↦ let low = rows_at_or_below s (levels s - r) (cap_layer s Fixed c) w (omega arith)
          (least_passes p (levels s) less) all in omega arith
      | inr full ↦ omega arith
    ]
