-- Exponents go down from layer to layer. The last layer is one node, and the last step is of the whole arity.
use Rattle.std.proofs.Common.{◌≡◌, ℕ, zero, suc, ◌+◌, ◌-◌, ◌<◌, ◌≤◌, arith, inl, inr, add-suc, sym, ◌∙◌}
use Rattle.std.proofs.lemmas.Grind.{common_steps}
use Rattle.std.proofs.lemmas.Bool.{false≢true}
use Rattle.p3_merkle_core.specs.Geometry.{Shape, IsArity, layer_exponent, levels, heights, exponent, step, layer_len}
use Rattle.p3_merkle_core.proofs.Shapes.StepFacts.{next_exponent, next_falls}
use Rattle.p3_merkle_core.proofs.Shapes.LadderFacts.{step_cases, exponent_at_levels}
use Rattle.p3_merkle_core.proofs.Shapes.RawFacts.{positive_below, filled}
use Rattle.p3_merkle_core.proofs.Shapes.SiblingFacts.{none_between}
use Rattle.p3_support.specs.Batches.{greatest}

pub exponents_fall : (s : Shape) (l k : ℕ) → layer_exponent s (l + k) ≤ layer_exponent s l
exponents_fall s l zero = let z : l + 0 ≡ l = omega arith in rw z (omega arith)
exponents_fall s l (suc k) =
    let below = exponents_fall s l k in
    rw add-suc (elim (step_cases s (l + k)) [ inl b ↦ omega (arith, b.1) | inr b ↦ omega (arith, b.1) ])

-- strictly, below the root
pub falls_above : (s : Shape) (l m : ℕ) → IsArity s.arity → l < levels s → l < m →
    layer_exponent s m < layer_exponent s l
falls_above s l m w low above =
    let up = next_falls s (layer_exponent s l) (layer_exponent s (suc l)) w.above_1 (positive_below s l low)
    (next_exponent s l) in
    let sum : suc l + (m - suc l) ≡ m = omega arith in
    let further = rw sum at (exponents_fall s (suc l) (m - suc l)) in
    omega arith

pub root_alone : (s : Shape) → IsArity s.arity → 0 < greatest (heights s) → layer_len s (levels s) ≡ 1
root_alone s w some = grind (arith, common_steps, exponent_at_levels, filled)

pub last_step : (s : Shape) → IsArity s.arity → (l : ℕ) → levels s ≡ suc l → step s l ≡ s.arity
last_step s w l e =
    let end = rw e at (exponent_at_levels s w) in
    let up = positive_below s l (omega arith) in
    elim (step_cases s l) [
      | inl b ↦
          let one : layer_exponent s l ≡ 1 = omega (arith, b.1) in
          let bridge = rw one at b.0 in
          absurd (false≢true (sym (none_between (1 - exponent s.arity) 1 (heights s) (omega arith)) ∙ bridge))
      | inr b ↦ b.2
    ]
