-- The walk over the steps, and ancestors level by level.
use Rattle.std.proofs.Common.{◌≡◌, ℕ, suc, ◌+◌, ◌-◌, ◌/◌, ◌<◌, ◌≤◌, false, cond, eqb, refl, ap, sym, ◌∙◌, arith, inl}
use Rattle.std.proofs.Common.{inr, add-one}
use Rattle.std.proofs.lemmas.Grind.{common_steps}
use Rattle.std.proofs.lemmas.Bool.{cond_both, ne_eqb, cases_eq}
use Rattle.std.proofs.Math.Nat.{div-div-eq-div-mul}
use Rattle.p3_merkle_core.specs.Geometry.{Shape, exponent, layer_exponent, is_bridge, step, levels, leaves_under}
use Rattle.p3_merkle_core.specs.Geometry.{ancestor, heights}
use Rattle.p3_support.specs.Batches.{greatest}
use Rattle.p3_merkle_core.proofs.Shapes.LeastFacts.{least_is, exponent_covers}

pub layer_start : (s : Shape) → layer_exponent s 0 ≡ exponent (greatest (heights s))
unfolding layer_exponent
layer_start s = refl

pub next_exponent : (s : Shape) (n : ℕ) → layer_exponent s (suc n)
    ≡ cond (is_bridge s (layer_exponent s n)) (layer_exponent s n - 1) (layer_exponent s n - exponent s.arity)
unfolding layer_exponent
next_exponent s n = refl

-- a step of the whole arity goes down
pub whole_step_falls : (n : ℕ) → 2 ≤ n → 0 < exponent n
whole_step_falls n h = elim (cases_eq (exponent n) 0) [
  | inl e ↦ let c = rw e at (exponent_covers n) in
      absurd (omega arith)
  | inr ne ↦ omega arith
]

-- ---- the walk from layer to layer

-- after l steps the walk is at the exponent x, and no layer before was at 0
pub record IsAt (s : Shape) (l x : ℕ) : Type 0 where
  pub at_x : x ≡ layer_exponent s l
  pub room : x + l ≤ exponent (greatest (heights s))
  pub before : (k : ℕ) → k < l → eqb (layer_exponent s k) 0 ≡ false

pub at_start : (s : Shape) (x : ℕ) → x ≡ exponent (greatest (heights s)) → IsAt s 0 x
at_start s x e = record { at_x = e ∙ sym (layer_start s); room = omega arith; before = λ k h. absurd (omega arith) }

-- each step goes down
pub next_falls : (s : Shape) (x y : ℕ) → 2 ≤ s.arity → 0 < x → y ≡ cond (is_bridge s x) (x - 1) (x - exponent s.arity) →
    y < x
next_falls s x y two h e = grind (arith, common_steps, cond_both, whole_step_falls)

-- what one step from the exponent x of layer l is, and where it leads
pub step_at : (s : Shape) (l x n : ℕ) → x ≡ layer_exponent s l → n ≡ cond (is_bridge s x) 2 s.arity → n ≡ step s l
step_at s l x n at e = e ∙ ap (λ z. cond (is_bridge s z) 2 s.arity) at

pub next_at : (s : Shape) (l x y : ℕ) → x ≡ layer_exponent s l → y
    ≡ cond (is_bridge s x) (x - 1) (x - exponent s.arity) → y ≡ layer_exponent s (l + 1)
next_at s l x y at e = rw add-one (e ∙ ap (λ z. cond (is_bridge s z) (z - 1) (z - exponent s.arity)) at
    ∙ sym (next_exponent s l))

pub at_more : (s : Shape) (l x y : ℕ) → 2 ≤ s.arity → IsAt s l x → 0 < x → y
    ≡ cond (is_bridge s x) (x - 1) (x - exponent s.arity) → IsAt s (l + 1) y
at_more s l x y two w h e = grind (arith, common_steps, ne_eqb, cases_eq, next_falls, next_at)

-- the walk ends at the exponent 0
pub at_end : (s : Shape) (l x : ℕ) → IsAt s l x → x ≡ 0 → l ≡ levels s
at_end s l x w z =
    sym (least_is (λ l. eqb (layer_exponent s l) 0) (exponent (greatest (heights s))) l (omega (arith, w.room)) w.before
    (λ h. rw (← w.at_x, z) refl))

-- ---- ancestors

pub anc_next : (s : Shape) (l i : ℕ) → ancestor s (suc l) i ≡ ancestor s l i / step s l
unfolding leaves_under
anc_next s l i = sym (div-div-eq-div-mul i (leaves_under s l) (step s l))

pub anc_start : (s : Shape) (i : ℕ) → ancestor s 0 i ≡ i
unfolding leaves_under
anc_start s i = omega arith

pub step_above_1 : (s : Shape) (l : ℕ) → 2 ≤ s.arity → 2 ≤ step s l
step_above_1 s l h = cond_both (is_bridge s (layer_exponent s l)) 2 s.arity (λ x. 2 ≤ x) (λ e. omega arith) (λ e. h)
