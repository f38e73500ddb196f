-- How many siblings the levels have, and that their count fits. At arity 2 each level has one.
use Rattle.std.proofs.Common.{◌≡◌, ℕ, ◌+◌, ◌≤◌, ◌&&◌, nat_lt, false, List, [], ◌∷◌, refl, arith, inl, inr, zero, suc}
use Rattle.std.proofs.Common.{◌-◌, ◌*◌, ◌^◌, ◌<◌, ap, ◌∙◌}
use Rattle.std.proofs.lemmas.Grind.{common_steps}
use Rattle.std.proofs.lemmas.Bool.{cases_Bool, cond_both}
use Rattle.std.proofs.lemmas.Nat.{pow_pos}
use Rattle.std.proofs.Math.Nat.{mul-le-mul_left, suc-mul}
use Rattle.std.proofs.Math.Pow.{pow_mono}
use Rattle.std.specs.List.{list_any}
use Rattle.p3_merkle_core.specs.Geometry.{exponent, Shape, heights, layer_exponent, is_bridge, step, levels}
use Rattle.p3_merkle_core.specs.Geometry.{leaves_under, height_limit, IsArity}
use Rattle.p3_merkle_core.specs.Checks.{siblings_below}
use Rattle.p3_support.specs.Batches.{greatest}
use Rattle.p3_merkle_core.proofs.Shapes.LeastFacts.{exponent_le}
use Rattle.p3_merkle_core.proofs.Shapes.StepFacts.{step_above_1, next_exponent}
use Rattle.p3_merkle_core.proofs.Shapes.LadderFacts.{exact}
use Rattle.p3_merkle_core.proofs.Shapes.RawFacts.{positive_below}

-- no exponent lies strictly between two numbers with none between them
pub none_between : (a x : ℕ) (hs : List ℕ) → x ≤ a + 1 →
    list_any (λ h. nat_lt a (exponent h) && nat_lt (exponent h) x) hs ≡ false
none_between a x [] le = refl
none_between a x (h ∷ hs) le = grind (arith, common_steps, none_between a x hs le)

pub siblings_next : (s : Shape) (l : ℕ) → siblings_below s (suc l) ≡ siblings_below s l + (step s l - 1)
unfolding siblings_below
siblings_next s l = refl

pub siblings_start : (s : Shape) → siblings_below s 0 ≡ 0
unfolding siblings_below
siblings_start s = refl

product_more : (b n k : ℕ) → b + 1 ≤ n → 2 ≤ k → b + (k - 1) + 1 ≤ n * k
product_more b zero k h two = absurd (omega arith)
product_more b (suc n) k h two = let one : 1 ≤ k = omega arith in let m : n * 1 ≤ n * k = mul-le-mul_left n one in
    omega (arith, suc-mul n k)

-- a node has more leaves under it than its path has siblings
below_leaves : (s : Shape) → 2 ≤ s.arity → (l : ℕ) → siblings_below s l + 1 ≤ leaves_under s l
unfolding leaves_under
below_leaves s two zero = omega (arith, siblings_start s)
below_leaves s two (suc l) =
    rw siblings_next (product_more (siblings_below s l) (leaves_under s l) (step s l) (below_leaves s two l)
    (step_above_1 s l two))

-- a step that the tree has
pub record IsStep (s : Shape) (l : ℕ) : Type 0 where
  pub wide : 2 ≤ step s l
  pub narrow : step s l ≤ s.arity
  pub few : siblings_below s l < 2 ^ 62

pub step_is : (s : Shape) (l : ℕ) → IsArity s.arity → greatest (heights s) ≤ height_limit → l < levels s → IsStep s l
step_is s l w low h =
    let e = exact s w l (positive_below s l h) in
    let top : 2 ^ exponent (greatest (heights s)) ≤ 2 ^ 62 =
    pow_mono {i = exponent (greatest (heights s))} {j = 62} (exponent_le (greatest (heights s)) 62 low) in
    let m : leaves_under s l * 1 ≤ leaves_under s l * 2 ^ layer_exponent s l =
    mul-le-mul_left (leaves_under s l) (pow_pos (layer_exponent s l)) in
    record {
      wide = step_above_1 s l w.above_1;
      narrow = let two = w.above_1 in cond_both (is_bridge s (layer_exponent s l)) 2 s.arity (λ x. x ≤ s.arity)
          (λ t. two) (λ t. omega arith);
      few = omega (arith, below_leaves s w.above_1 l, m, e, top);
    }

-- a group of two takes one halving
of_two : exponent 2 ≡ 1
unfolding exponent
of_two = refl

-- the exponent above a level, by its step
pub above_step : (s : Shape) (l : ℕ) → layer_exponent s l - exponent (step s l) ≡ layer_exponent s (suc l)
above_step s l =
    elim (cases_Bool (is_bridge s (layer_exponent s l))) [
      | inl t ↦ rw (next_exponent s l, t, of_two) refl
      | inr f ↦ rw (next_exponent s l, f) refl
    ]

-- no step is a bridge step
no_bridge : (s : Shape) (x : ℕ) → s.arity ≡ 2 → is_bridge s x ≡ false
no_bridge s x two = let one : exponent s.arity ≡ 1 = ap exponent two ∙ of_two in
    none_between (x - exponent s.arity) x (heights s) (omega (arith, one))

-- so each level has one sibling
pub siblings_halved : (s : Shape) → s.arity ≡ 2 → (t : ℕ) → siblings_below s t ≡ t
siblings_halved s two zero = siblings_start s
siblings_halved s two (suc t) = grind (arith, common_steps, siblings_halved s two t, siblings_next, no_bridge)
