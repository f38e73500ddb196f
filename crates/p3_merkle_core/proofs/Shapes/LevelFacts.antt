-- What is known of the layer above a layer.
use Rattle.std.proofs.Common.{◌≡◌, ℕ, zero, suc, ◌/◌, ◌^◌, ◌≤◌, ◌&&◌, Bool, cond, nat_lt, ap, sym, ◌∙◌, arith, inl, inr}
use Rattle.std.proofs.Math.Pow.{pow_mono}
use Rattle.std.proofs.lemmas.Grind.{common_steps}
use Rattle.p3_merkle_core.specs.Geometry.{Shape, heights, exponent, has_rows, layer_exponent, is_bridge, levels}
use Rattle.p3_merkle_core.specs.Geometry.{raw_len, grouped_len_of, padded_len, height_limit, step, IsArity, IsLawful}
use Rattle.p3_merkle_core.specs.Geometry.{height_at}
use Rattle.p3_merkle_core.specs.Inner.Levels.{IsBelowTop, IsLevel}
use Rattle.p3_support.specs.Batches.{greatest}
use Rattle.p3_merkle_core.proofs.Shapes.GateFacts.{tallest_fits, none_large_from_lawful}
use Rattle.p3_merkle_core.proofs.Shapes.LeastFacts.{exponent_le}
use Rattle.p3_merkle_core.proofs.Shapes.LadderFacts.{step_cases}
use Rattle.p3_merkle_core.proofs.Shapes.SiblingFacts.{step_is}
use Rattle.p3_merkle_core.proofs.Shapes.StepFacts.{layer_start}
use Rattle.p3_merkle_core.proofs.Shapes.RawFacts.{filled, children_fit, raw_at}

-- no lawful height is above the limit
pub low : (s : Shape) → IsLawful (heights s) → greatest (heights s) ≤ height_limit
low s w = tallest_fits (heights s) (none_large_from_lawful (heights s) w)

-- no layer's exponent is above the tallest height's
pub exponent_low : (s : Shape) (l : ℕ) → layer_exponent s l ≤ exponent (greatest (heights s))
exponent_low s zero = omega (arith, layer_start s)
exponent_low s (suc l) = elim (step_cases s l) [
  | inl k ↦ omega (arith, k.1, exponent_low s l)
  | inr k ↦ omega (arith, k.1, exponent_low s l)
]

-- no layer has more than 2 ^ 62 nodes
pub record IsSmall (s : Shape) (l : ℕ) : Type 0 where
  pub raw_small : raw_len s l ≤ 2 ^ 62
  pub exponent_small : layer_exponent s l ≤ 62

-- where the heights are lawful
pub small : (s : Shape) → IsArity s.arity → IsLawful (heights s) → (l : ℕ) → l ≤ levels s → IsSmall s l
small s w lawful l h =
    let f = filled s w lawful.some_above_0 l h in
    let x : layer_exponent s l ≤ 62 =
    omega (arith, exponent_low s l, exponent_le (greatest (heights s)) 62 (low s lawful)) in
    record { raw_small = omega (arith, f.fits, pow_mono {i = layer_exponent s l} {j = 62} x); exponent_small = x }

-- ---- the layer above

-- the layer below has no more than 2 ^ 62 nodes
pub small_at : {s : Shape} {l x r : ℕ} → IsBelowTop s l x r → IsSmall s l
small_at {s} {l} w = let h = w.in_tree in small s w.arity w.lawful l (omega arith)

-- how many slots are grouped, by whether the step is a bridge step
pub grouped_is : {s : Shape} {l x r : ℕ} (g : ℕ) (b : Bool) → IsBelowTop s l x r → b
    ≡ is_bridge s (layer_exponent s l) → g ≡ cond (b && nat_lt r s.arity) (2 ^ x) (padded_len r s.arity) → g
    ≡ grouped_len_of s x r
grouped_is {s} {l} {x} {r} g b w is_b is_g = grind (arith, common_steps)

-- the nodes above
nodes_above : {s : Shape} {l x r : ℕ} (n g : ℕ) → IsBelowTop s l x r → n ≡ step s l → g ≡ grouped_len_of s x r → g / n
    ≡ raw_len s (suc l)
nodes_above {s} {l} {x} {r} n g w e d =
    raw_at s l x r g n w.at_x w.at_raw d (e ∙ ap (λ z. cond (is_bridge s z) 2 s.arity) (sym w.at_x))

-- which are no more than 2 ^ 62
pub next_small : {s : Shape} {l x r : ℕ} (n g : ℕ) → IsBelowTop s l x r → n ≡ step s l → g ≡ grouped_len_of s x r →
    g / n ≤ 2 ^ 62
next_small {s} {l} n g w e d = let k = small s w.arity w.lawful (suc l) w.in_tree in
    rw (nodes_above n g w e d) k.raw_small

-- what is known of the layer above
pub level_is : {s : Shape} {l x r : ℕ} (n y g v h : ℕ) (b : Bool) → IsBelowTop s l x r → n ≡ step s l → y
    ≡ layer_exponent s (suc l) → g ≡ grouped_len_of s x r → v ≡ padded_len (g / n) s.arity → h
    ≡ height_at (greatest (heights s)) y → b ≡ has_rows s (suc l) →
    IsLevel s (record { below = l; step = n; exponent = y; raw_len = g / n; layer_len = v; height = h; has_rows = b })
level_is {s} {l} n y g v h b w is_n is_y is_g is_v is_h is_b =
    let k = step_is s l w.arity (low s w.lawful) w.in_tree in
    let rest = nodes_above n g w is_n is_g in
    record {
      step_is = is_n;
      wide = omega (arith, k.wide);
      narrow = omega (arith, k.narrow);
      exponent_is = is_y;
      raw_is = rest;
      layer_len_is = is_v ∙ ap (λ q. padded_len q s.arity) rest;
      height_is = is_h ∙ ap (λ q. height_at (greatest (heights s)) q) is_y;
      rows_are = is_b;
      fits = rw (rest, is_n) (children_fit s w.arity w.lawful.some_above_0 l w.in_tree);
    }
