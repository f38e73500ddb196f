-- The lengths of layers against their exponents: layer l has more than half of 2 ^ x nodes, and at most 2 ^ x.
use Rattle.std.proofs.Common.{◌≡◌, ℕ, zero, suc, ◌+◌, ◌-◌, ◌*◌, ◌/◌, ◌%◌, ◌^◌, ◌<◌, ◌≤◌, cond, eqb, nat_lt, ◌&&◌, refl}
use Rattle.std.proofs.Common.{ap, sym, ◌∙◌, arith, inl, inr}
use Rattle.std.proofs.Math.Nat.{mul_assoc, mul_comm, two-pow-succ, mul-le-mul_left, mul-div_cancel_left, mod-eq_of_lt}
use Rattle.std.proofs.Math.Nat.{mod_self, sub-zero, le_of_mul-le-mul_left, lt_of_mul-lt-mul_left, div-lt_iff_lt-mul}
use Rattle.std.proofs.Math.Pow.{pow_mono, pow-lt}
use Rattle.std.proofs.lemmas.Bool.{cond-true, and_from, and_right, and_left, eqb-false}
use Rattle.std.proofs.lemmas.Bool.{cond-false, cases_lt, cases_eq, lt-ltb, ltb-true, le-ltb, cond_both, and_parts}
use Rattle.std.proofs.lemmas.Grind.{common_steps}
use Rattle.std.specs.Int.{next_multiple_of}
use Rattle.p3_merkle_core.specs.Geometry.{Shape, exponent, layer_exponent, is_bridge, step, levels, ancestor}
use Rattle.p3_merkle_core.specs.Geometry.{padded_len, raw_len, grouped_len_of, layer_len, heights, IsArity}
use Rattle.p3_merkle_core.specs.Inner.Shapes.{grouped_len}
use Rattle.p3_support.specs.Batches.{greatest}
use Rattle.p3_merkle_core.proofs.Shapes.LeastFacts.{below_least, exponent_covers, below_exponent}
use Rattle.p3_merkle_core.proofs.Shapes.StepFacts.{whole_step_falls, anc_next, anc_start, step_above_1, step_at}
use Rattle.p3_merkle_core.proofs.Shapes.LadderFacts.{step_cases, binary_power, whole_power}

-- ---- the least multiple of y that is x or more

-- what `next_multiple_of x y` is, with q times y
pub record IsLeastMultiple (x y q : ℕ) : Type 0 where
  pub is : next_multiple_of x y ≡ y * q
  pub enough : x ≤ y * q
  pub least : (r : ℕ) → x ≤ y * r → q ≤ r

pub least_multiple : (x y : ℕ) → 0 < y → (q : ℕ) × IsLeastMultiple x y q
least_multiple x y h =
    let split : y * (x / y) + x % y ≡ x = omega arith in
    elim (cases_eq (x % y) 0) [
      | inl z ↦ (
        x / y,
        record {
          is = rw (z, sub-zero, mod_self) (omega arith);
          enough = omega arith;
          least = λ r le. le_of_mul-le-mul_left {k = y} (omega arith) h;
        },
      )
      | inr nz ↦
          let more : y * (x / y + 1) ≡ y * (x / y) + y = omega arith in
          let small : x % y < y = omega arith in
          let rest : (y - x % y) % y ≡ y - x % y = mod-eq_of_lt (omega arith) in (
            x / y + 1,
            record {
              is = rw rest (omega arith);
              enough = omega arith;
              least = λ r le.
                  let lt : x / y < r = lt_of_mul-lt-mul_left y (omega arith) in omega arith;
            },
          )
    ]

-- ---- lengths and exponents

pub record IsFilled (x r : ℕ) : Type 0 where
  pub fits : r ≤ 2 ^ x
  pub above_half : 2 ^ x < 2 * r

-- what a step makes of r nodes at the exponent x: g grouped slots, q groups, at the exponent y
record IsGrouped (x r g t q y : ℕ) : Type 0 where
  pub covers : r ≤ g
  pub in_groups : g ≡ t * q
  pub filled : IsFilled y q

pow_below_from : (i j : ℕ) → 2 ^ i < 2 ^ j → i < j
pow_below_from i j h = elim (cases_lt i j) [ inl l ↦ l | inr g ↦ absurd (omega (arith, pow_mono {i = j} {j = i} g)) ]

pow_le_from : (i j : ℕ) → 2 ^ i ≤ 2 ^ j → i ≤ j
pow_le_from i j h = elim (cases_lt j i) [ inl l ↦ absurd (omega (arith, pow-lt {i = j} {j = i} l)) | inr g ↦ g ]

pub above_1 : (x r : ℕ) → 0 < x → IsFilled x r → 1 < r
above_1 x r h f = omega (arith, pow_mono {i = 1} {j = x} h, f.above_half)

pub padded_short : (r n : ℕ) → 1 < r → r < n → padded_len r n ≡ n
padded_short r n h l = grind (arith, common_steps)

pub padded_long : (r n : ℕ) → 1 < r → n ≤ r → padded_len r n ≡ next_multiple_of r n
padded_long r n h l = grind (arith, common_steps)

-- a step with r below the arity, by one
short_binary : (s : Shape) (x r : ℕ) → 0 < x → IsFilled x r → IsGrouped x r (2 ^ x) 2 (2 ^ (x - 1)) (x - 1)
short_binary s x r h f = grind (arith, common_steps)

-- a whole step with r below the arity ends the walk
short_whole : (s : Shape) → IsArity s.arity → (x r : ℕ) → 0 < x → IsFilled x r → r < s.arity →
    IsGrouped x r s.arity s.arity 1 (x - exponent s.arity)
short_whole s w x r h f l =
    let k = exponent s.arity in
    let below : x < suc k = pow_below_from x (suc k) (omega (arith, f.above_half, w.power, two-pow-succ k)) in
    let z : x - k ≡ 0 = omega arith in
    record {
      covers = omega arith;
      in_groups = omega arith;
      filled = rw z (record { fits = omega arith; above_half = omega arith });
    }

-- the padded length of a layer of at least the arity, in groups of the arity
long_whole : (s : Shape) → IsArity s.arity → (x r : ℕ) → 0 < x → IsFilled x r → s.arity ≤ r →
    (q : ℕ) × IsGrouped x r (padded_len r s.arity) s.arity q (x - exponent s.arity)
long_whole s w x r h f l =
    let k = exponent s.arity in
    let n = s.arity in
    let le : k ≤ x = pow_le_from k x (omega (arith, f.fits, w.power)) in
    let all : n * 2 ^ (x - k) ≡ 2 ^ x = whole_power s w x
    ∙ ap (λ m. 2 ^ m) (let e : k + (x - k) ≡ x = omega arith in e) in
    let m = least_multiple r n (omega (arith, w.above_1)) in
    let q = m.0 in
    let is : padded_len r n ≡ n * q = padded_long r n (above_1 x r h f) l ∙ m.1.is in (
      q,
      record {
        covers = omega (arith, is, m.1.enough);
        in_groups = is;
        filled = record {
          fits = m.1.least (2 ^ (x - k)) (omega (arith, f.fits));
          above_half =
              let twice : n * (2 * q) ≡ 2 * (n * q) = omega arith in
              lt_of_mul-lt-mul_left n (omega (arith, f.above_half, m.1.enough));
        };
      },
    )

-- the same in pairs
long_binary : (s : Shape) → IsArity s.arity → (x r : ℕ) → 0 < x → IsFilled x r → s.arity ≤ r →
    (q : ℕ) × IsGrouped x r (padded_len r s.arity) 2 q (x - 1)
long_binary s w x r h f l =
    let k = exponent s.arity in
    let n = s.arity in
    let m = long_whole s w x r h f l in
    let half : n ≡ 2 * 2 ^ (k - 1) = w.power ∙ sym (binary_power k (whole_step_falls n w.above_1)) in
    let is : padded_len r n ≡ 2 * (2 ^ (k - 1) * m.0) = m.1.in_groups ∙ ap (λ a. a * m.0) half
    ∙ mul_assoc 2 (2 ^ (k - 1)) m.0 in
    let le : k ≤ x = pow_le_from k x (omega (arith, f.fits, w.power)) in
    let all : n * 2 ^ (x - k) ≡ 2 ^ x = whole_power s w x
    ∙ ap (λ m. 2 ^ m) (let e : k + (x - k) ≡ x = omega arith in e) in
    let top = mul-le-mul_left n m.1.filled.fits in (
      2 ^ (k - 1) * m.0,
      record {
        covers = m.1.covers;
        in_groups = is;
        filled = record {
          fits = omega (arith, binary_power x h, m.1.in_groups);
          above_half = omega (arith, binary_power x h, f.above_half, m.1.covers);
        };
      },
    )

grouped_is : (s : Shape) → IsArity s.arity → (l : ℕ) → 0 < layer_exponent s l →
    IsFilled (layer_exponent s l) (raw_len s l) →
    (q : ℕ) × IsGrouped (layer_exponent s l) (raw_len s l) (grouped_len s l) (step s l) q (layer_exponent s (suc l))
grouped_is s w l h f =
    let x = layer_exponent s l in
    let r = raw_len s l in
    let pow = 2 ^ x in
    let pad = padded_len r s.arity in
    elim (step_cases s l) [
      | inl b ↦ elim (cases_lt r s.arity) [
        | inl lt ↦
            let g : grouped_len s l
            ≡ pow = cond-true (is_bridge s x && nat_lt r s.arity) pow pad
            (and_from (is_bridge s x) (nat_lt r s.arity) b.0 (lt-ltb r s.arity lt)) in
            (2 ^ (x - 1), rw (g, b.1, b.2) (short_binary s x r h f))
        | inr ge ↦
            let g : grouped_len s l
            ≡ pad = cond-false (is_bridge s x && nat_lt r s.arity) pow pad
            (and_right (is_bridge s x) (nat_lt r s.arity) (le-ltb r s.arity ge)) in
            let m = long_binary s w x r h f ge in
            (m.0, rw (g, b.1, b.2) m.1)
      ]
      | inr b ↦
          let g : grouped_len s l
          ≡ pad = cond-false (is_bridge s x && nat_lt r s.arity) pow pad
          (and_left (is_bridge s x) (nat_lt r s.arity) b.0) in
          elim (cases_lt r s.arity) [
            | inl lt ↦ (1, rw (g, b.1, b.2, padded_short r s.arity (above_1 x r h f) lt) (short_whole s w x r h f lt))
            | inr ge ↦ let m = long_whole s w x r h f ge in (m.0, rw (g, b.1, b.2) m.1)
          ]
    ]

pub raw_next : (s : Shape) (l : ℕ) → raw_len s (suc l) ≡ grouped_len s l / step s l
unfolding raw_len
raw_next s l = refl

-- the nodes above, counted from the exponent and the nodes of the layer below
pub raw_at : (s : Shape) (l x r g n : ℕ) → x ≡ layer_exponent s l → r ≡ raw_len s l → g ≡ grouped_len_of s x r → n
    ≡ cond (is_bridge s x) 2 s.arity → g / n ≡ raw_len s (suc l)
raw_at s l x r g n at_x at_raw is_g is_n = grind (arith, common_steps, step_at, raw_next)

-- above the layers below the last, the exponent is positive
pub positive_below : (s : Shape) (l : ℕ) → l < levels s → 0 < layer_exponent s l
positive_below s l h =
    let e = below_least (λ l. eqb (layer_exponent s l) 0) (exponent (greatest (heights s))) l h in
    let ne = eqb-false (layer_exponent s l) 0 e in
    elim (cases_eq (layer_exponent s l) 0) [ inl z ↦ absurd (ne z) | inr nz ↦ omega arith ]

pub filled : (s : Shape) → IsArity s.arity → 0 < greatest (heights s) → (l : ℕ) → l ≤ levels s →
    IsFilled (layer_exponent s l) (raw_len s l)
unfolding raw_len layer_exponent
filled s w some zero h =
    let e = exponent (greatest (heights s)) in
    record {
      fits = exponent_covers (greatest (heights s));
      above_half = elim (cases_eq e 0) [
        | inl z ↦ rw z (omega arith)
        | inr nz ↦ omega (
          arith,
          below_exponent (greatest (heights s)) (e - 1) (omega arith),
          binary_power e (omega arith),
        )
      ];
    }
filled s w some (suc l) h =
    let g = grouped_is s w l (positive_below s l h) (filled s w some l (omega arith)) in
    let e : raw_len s (suc l) ≡ g.0 = raw_next s l ∙ ap (λ n. n / step s l) g.1.in_groups
    ∙ mul-div_cancel_left g.0 (let a = step_above_1 s l w.above_1 in omega arith) in
    rw e g.1.filled

pub raw_fits : (s : Shape) → IsArity s.arity → 0 < greatest (heights s) → (l : ℕ) → l < levels s →
    raw_len s l ≤ step s l * raw_len s (suc l)
raw_fits s w some l h =
    let g = grouped_is s w l (positive_below s l h) (filled s w some l (omega arith)) in
    let e : raw_len s (suc l) ≡ g.0 = raw_next s l ∙ ap (λ n. n / step s l) g.1.in_groups
    ∙ mul-div_cancel_left g.0 (let a = step_above_1 s l w.above_1 in omega arith) in
    rw e (omega (arith, g.1.covers, g.1.in_groups))

-- the children of nodes that are no padding are slots of the layer below
pub children_fit : (s : Shape) → IsArity s.arity → 0 < greatest (heights s) → (l : ℕ) → l < levels s →
    step s l * raw_len s (suc l) ≤ layer_len s l
children_fit s w some l h =
    let x = layer_exponent s l in
    let r = raw_len s l in
    let pad = padded_len r s.arity in
    let f = filled s w some l (omega arith) in
    let g = grouped_is s w l (positive_below s l h) f in
    let e : raw_len s (suc l) ≡ g.0 = raw_next s l ∙ ap (λ n. n / step s l) g.1.in_groups
    ∙ mul-div_cancel_left g.0 (let a = step_above_1 s l w.above_1 in omega arith) in
    let is : step s l * raw_len s (suc l) ≡ grouped_len s l = rw e (sym g.1.in_groups) in
    rw is (cond_both (is_bridge s x && nat_lt r s.arity) (2 ^ x) pad (λ z. z ≤ pad)
    (λ short.
    let k = exponent s.arity in
    let lt = ltb-true r s.arity (and_parts (is_bridge s x) (nat_lt r s.arity) short).1 in
    let below : x < suc k = pow_below_from x (suc k) (omega (arith, f.above_half, w.power, two-pow-succ k)) in
    rw (padded_short r s.arity (above_1 x r (positive_below s l h) f) lt)
    (omega (arith, w.power, pow_mono {i = x} {j = k} (omega arith))))
    (λ long. omega arith))

-- an index's ancestor is a node, and no padding
pub anc_below : (s : Shape) → IsArity s.arity → (i : ℕ) → i < greatest (heights s) → (l : ℕ) → l ≤ levels s →
    ancestor s l i < raw_len s l
unfolding raw_len
anc_below s w i below zero h = rw anc_start below
anc_below s w i below (suc l) h =
    let a = step_above_1 s l w.above_1 in
    let ih = anc_below s w i below l (omega arith) in
    let f = raw_fits s w (omega arith) l h in
    rw anc_next ((div-lt_iff_lt-mul {k = step s l} (omega arith)).1
    (omega (arith, mul_comm (step s l) (raw_len s (suc l)))))
