-- How the walk ends, what its steps multiply to, and that each matrix has its layer.
use Rattle.std.proofs.Common.{◌≡◌, ℕ, zero, suc, ◌+◌, ◌-◌, ◌*◌, ◌/◌, ◌^◌, ◌<◌, ◌≤◌, Bool, true, false, eqb, nat_lt}
use Rattle.std.proofs.Common.{◌&&◌, ap, sym, ◌∙◌, arith, inl, inr, ◌⊎◌, length, get_or}
use Rattle.std.proofs.Math.Nat.{mul_assoc, two-pow-succ, mul-le-mul_left, mul-div_cancel, div-eq_of_lt, sub-zero}
use Rattle.std.proofs.Math.Pow.{pow_mono}
use Rattle.std.proofs.lemmas.Bool.{cond-true, eqb-true}
use Rattle.std.proofs.lemmas.Bool.{cond-false, cases_Bool, cases_lt, cases_eq, eq-eqb, and_from, lt-ltb, false≢true}
use Rattle.std.proofs.lemmas.Grind.{common_steps}
use Rattle.std.proofs.lemmas.List.Folds.{list_any_at}
use Rattle.std.proofs.lemmas.Nat.{pow-add, pow_pos}
pub use Rattle.p3_merkle_core.specs.Geometry.{IsArity, heights}
pub use Rattle.p3_support.specs.Batches.{greatest}
use Rattle.p3_merkle_core.specs.Geometry.{Shape, exponent, layer_exponent, is_bridge, step, levels, leaves_under}
use Rattle.p3_merkle_core.specs.Geometry.{ancestor, halved_index, layer_of, expected_height}
use Rattle.p3_merkle_core.proofs.Shapes.LeastFacts.{least_le, least_passes, least_bound, exponent_covers, exponent_mono}
use Rattle.p3_merkle_core.proofs.Shapes.LeastFacts.{le_tallest}
use Rattle.p3_merkle_core.proofs.Shapes.StepFacts.{next_exponent, whole_step_falls}

-- what a step does: by one and two, or by the arity
pub step_cases : (s : Shape) (l : ℕ) →
    ((is_bridge s (layer_exponent s l) ≡ true) × (layer_exponent s (suc l) ≡ layer_exponent s l - 1) × (step s l ≡ 2))
    ⊎ ((is_bridge s (layer_exponent s l) ≡ false) × (layer_exponent s (suc l) ≡ layer_exponent s l - exponent s.arity) ×
    (step s l ≡ s.arity))
step_cases s l = grind (arith, common_steps, cond-true, cond-false, cases_Bool, next_exponent)

falls : (s : Shape) → IsArity s.arity → (l : ℕ) → (layer_exponent s l ≡ 0) ⊎
    (layer_exponent s l + l ≤ exponent (greatest (heights s)))
unfolding layer_exponent
falls s w zero = inr (omega arith)
falls s w (suc l) = grind (arith, common_steps, falls s w l, cases_eq, whole_step_falls, step_cases)

-- the walk ends at the exponent 0, after at most as many steps as the tallest exponent
pub levels_le : (s : Shape) → levels s ≤ exponent (greatest (heights s))
levels_le s = least_le (λ l. eqb (layer_exponent s l) 0) (exponent (greatest (heights s)))

pub exponent_at_levels : (s : Shape) → IsArity s.arity → layer_exponent s (levels s) ≡ 0
exponent_at_levels s w = grind (arith, common_steps, cases_lt, eqb-true, least_passes, falls)

pub whole_power : (s : Shape) → IsArity s.arity → (x : ℕ) → s.arity * 2 ^ (x - exponent s.arity)
    ≡ 2 ^ (exponent s.arity + (x - exponent s.arity))
whole_power s w x = ap (λ a. a * 2 ^ (x - exponent s.arity)) w.power
    ∙ sym (pow-add 2 (exponent s.arity) (x - exponent s.arity))

pub binary_power : (x : ℕ) → 0 < x → 2 * 2 ^ (x - 1) ≡ 2 ^ x
binary_power zero h = absurd (omega arith)
binary_power (suc x) h = let e : suc x - 1 ≡ x = omega arith in rw e (omega (arith, two-pow-succ x))

-- a step is at least as wide as it goes down
step_covers : (s : Shape) → IsArity s.arity → (l : ℕ) → 2 ^ layer_exponent s l ≤ step s l * 2 ^ layer_exponent s (suc l)
step_covers s w l =
    let x = layer_exponent s l in
    elim (step_cases s l) [
      | inl b ↦ rw (b.1, b.2)
          (elim (cases_eq x 0) [ inl z ↦ rw z (omega arith) | inr nz ↦ omega (arith, binary_power x (omega arith)) ])
      | inr b ↦ rw (b.1, b.2)
          (omega (
            arith,
            whole_power s w x,
            pow_mono {i = x} {j = exponent s.arity + (x - exponent s.arity)}
                (omega arith),
          ))
    ]

-- and just as wide, where it does not end at 0
step_exact : (s : Shape) → IsArity s.arity → (l : ℕ) → 0 < layer_exponent s (suc l) →
    step s l * 2 ^ layer_exponent s (suc l) ≡ 2 ^ layer_exponent s l
step_exact s w l h =
    let x = layer_exponent s l in
    elim (step_cases s l) [
      | inl b ↦ let g : 0 < x = omega (arith, b.1) in rw (b.1, b.2) (binary_power x g)
      | inr b ↦ let g : exponent s.arity + (x - exponent s.arity) ≡ x = omega (arith, b.1) in
          rw (b.1, b.2) (whole_power s w x ∙ ap (λ n. 2 ^ n) g)
    ]

covers : (s : Shape) → IsArity s.arity → (l : ℕ) →
    2 ^ exponent (greatest (heights s)) ≤ leaves_under s l * 2 ^ layer_exponent s l
unfolding leaves_under layer_exponent
covers s w zero = omega arith
covers s w (suc l) =
    rw mul_assoc (omega (arith, covers s w l, mul-le-mul_left (leaves_under s l) (step_covers s w l)))

-- above the last layer, a node has just 2 ^ (e(M) - x) leaves under it
pub exact : (s : Shape) → IsArity s.arity → (l : ℕ) → 0 < layer_exponent s l → leaves_under s l * 2 ^ layer_exponent s l
    ≡ 2 ^ exponent (greatest (heights s))
unfolding leaves_under layer_exponent
exact s w zero h = omega arith
exact s w (suc l) h =
    let e = step_exact s w l h in
    let up : 0 < layer_exponent s l =
    elim (step_cases s l) [ inl b ↦ omega (arith, b.1) | inr b ↦ omega (arith, b.1) ] in
    mul_assoc (leaves_under s l) (step s l) (2 ^ layer_exponent s (suc l)) ∙ ap (λ n. leaves_under s l * n) e
    ∙ exact s w l up

-- no step goes past a matrix's exponent
no_jump : (s : Shape) (l i : ℕ) → i < length (heights s) → exponent (get_or (heights s) i 0) < layer_exponent s l →
    exponent (get_or (heights s) i 0) ≤ layer_exponent s (suc l)
no_jump s l i h below =
    let x = layer_exponent s l in
    let e = exponent (get_or (heights s) i 0) in
    elim (step_cases s l) [
      | inl b ↦ omega (arith, b.1)
      | inr b ↦ elim (cases_lt (x - exponent s.arity) e) [
        | inl lt ↦ absurd
            (false≢true (sym b.0
            ∙ list_any_at (λ y. nat_lt (x - exponent s.arity) (exponent y) && nat_lt (exponent y) x) (heights s) i 0 h
            (and_from (nat_lt (x - exponent s.arity) e) (nat_lt e x) (lt-ltb (x - exponent s.arity) e lt)
            (lt-ltb e x below))))
        | inr ge ↦ omega (arith, b.1)
      ]
    ]

reached_or_below : (s : Shape) (i : ℕ) → i < length (heights s) → (l : ℕ) →
    ((k : ℕ) × (k ≤ l) × (layer_exponent s k ≡ exponent (get_or (heights s) i 0))) ⊎
    (exponent (get_or (heights s) i 0) < layer_exponent s l)
unfolding layer_exponent
reached_or_below s i h zero = grind (arith, common_steps, cases_eq, exponent_mono, le_tallest)
reached_or_below s i h (suc l) =
    elim (reached_or_below s i h l) [
      | inl k ↦ inl (k.0, omega (arith, k.1), k.2)
      | inr b ↦ elim (cases_eq (layer_exponent s (suc l)) (exponent (get_or (heights s) i 0))) [
        | inl e ↦ inl (suc l, omega arith, e)
        | inr ne ↦ inr (omega (arith, no_jump s l i h b))
      ]
    ]

-- each matrix has its layer
pub layer_of_is : (s : Shape) → IsArity s.arity → (i : ℕ) → i < length (heights s) →
    layer_exponent s (layer_of s (get_or (heights s) i 0)) ≡ exponent (get_or (heights s) i 0)
layer_of_is s w i h =
    let e = exponent (get_or (heights s) i 0) in
    let p : ℕ → Bool = λ l. eqb (layer_exponent s l) e in
    elim (cases_lt (layer_of s (get_or (heights s) i 0)) (levels s)) [
      | inl l ↦ eqb-true (layer_exponent s (layer_of s (get_or (heights s) i 0))) e (least_passes p (levels s) l)
      | inr g ↦
          let last : layer_of s (get_or (heights s) i 0) ≡ levels s = omega (arith, least_le p (levels s)) in
          let z = exponent_at_levels s w in
          elim (reached_or_below s i h (levels s)) [
            | inl k ↦
                let same : k.0
                ≡ levels s = omega (arith, k.1, least_bound p (levels s) k.0 (eq-eqb (layer_exponent s k.0) e k.2))
                in
                rw last (ap (λ l. layer_exponent s l) (sym same) ∙ k.2)
            | inr b ↦ absurd (omega arith)
          ]
    ]

pub leaves_under_is : (s : Shape) → IsArity s.arity → (l : ℕ) → 0 < layer_exponent s l →
    layer_exponent s l ≤ exponent (greatest (heights s)) →
    leaves_under s l ≡ 2 ^ (exponent (greatest (heights s)) - layer_exponent s l)
leaves_under_is s w l h le =
    let x = layer_exponent s l in
    let e = exponent (greatest (heights s)) in
    let sum : e - x + x ≡ e = omega arith in
    sym (mul-div_cancel (leaves_under s l) (pow_pos x))
    ∙ ap (λ n. n / 2 ^ x) (exact s w l h ∙ sym (ap (λ n. 2 ^ n) sum) ∙ pow-add 2 (e - x) x)
    ∙ mul-div_cancel (2 ^ (e - x)) (pow_pos x)

-- the ancestor of an index has as many bits fewer as the layer's exponent is below that of the leaves
pub shifted_is_anc : (s : Shape) → IsArity s.arity → (l index : ℕ) → index < greatest (heights s) →
    layer_exponent s l ≤ exponent (greatest (heights s)) →
    index / 2 ^ (exponent (greatest (heights s)) - layer_exponent s l) ≡ ancestor s l index
shifted_is_anc s w l index below le =
    let top = exponent_covers (greatest (heights s)) in
    elim (cases_eq (layer_exponent s l) 0) [
      | inl z ↦
          let c = rw z at (covers s w l) in
          let first : index < 2 ^ (exponent (greatest (heights s)) - layer_exponent s l) =
          rw (z, sub-zero) (omega arith) in
          let second : index < leaves_under s l = omega arith in
          div-eq_of_lt first ∙ sym (div-eq_of_lt second)
      | inr nz ↦ ap (λ n. index / n) (sym (leaves_under_is s w l (omega arith) le))
    ]

-- the row of a matrix that belongs to an index is the index's ancestor at the layer of the matrix's exponent
pub row_is_anc_at : (s : Shape) → IsArity s.arity → (height index l : ℕ) → height ≤ greatest (heights s) →
    index < greatest (heights s) → layer_exponent s l ≡ exponent height →
    halved_index (greatest (heights s)) height index ≡ ancestor s l index
row_is_anc_at s w height index l in_reach below is = grind (arith, common_steps, exponent_mono, shifted_is_anc)

pub row_is_anc : (s : Shape) → IsArity s.arity → (i index : ℕ) → i < length (heights s) → index < greatest (heights s) →
    halved_index (greatest (heights s)) (get_or (heights s) i 0) index
    ≡ ancestor s (layer_of s (get_or (heights s) i 0)) index
row_is_anc s w i index h below = grind (arith, common_steps, le_tallest, layer_of_is, row_is_anc_at)

-- and the matrix has it
pub row_below : (s : Shape) (h index : ℕ) → h ≡ expected_height (greatest (heights s)) h →
    index < greatest (heights s) → halved_index (greatest (heights s)) h index < h
row_below s h index e below = grind (arith, common_steps)
