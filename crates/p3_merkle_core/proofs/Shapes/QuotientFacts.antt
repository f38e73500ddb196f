-- Quotients that are rounded up.
use Rattle.std.proofs.Common.{◌≡◌, ℕ, ◌*◌, ◌<◌, ◌≤◌, arith, inl, inr, sym, ap, ◌∙◌}
use Rattle.std.proofs.lemmas.Grind.{common_steps}
use Rattle.std.proofs.lemmas.Bool.{cases_lt}
use Rattle.std.proofs.Math.Nat.{div-one, mod-one, mul_assoc, mul_comm, mul-le-mul_left}
use Rattle.std.specs.Int.{div_ceil}

-- a quotient that is rounded up covers the number
pub ceil_covers : (x a : ℕ) → 0 < a → x ≤ div_ceil x a * a
ceil_covers x a some = grind (arith, common_steps)

-- and nothing below it does
pub ceil_below : (x a k : ℕ) → 0 < a → k < div_ceil x a → k * a < x
ceil_below x a k some below = grind (arith, common_steps)

-- so it is at most what covers
pub ceil_le : (x a k : ℕ) → 0 < a → x ≤ k * a → div_ceil x a ≤ k
ceil_le x a k some enough = grind (arith, common_steps)

-- it is not above the number
pub ceil_le_self : (x a : ℕ) → 0 < a → div_ceil x a ≤ x
ceil_le_self x a some = ceil_le x a x some (let more : x * 1 ≤ x * a = mul-le-mul_left x some in omega arith)

-- and it is what covers, if nothing below does
pub ceil_is : (x a k : ℕ) → 0 < a → x ≤ k * a → ((j : ℕ) → j < k → j * a < x) → div_ceil x a ≡ k
ceil_is x a k some enough least =
    elim (cases_lt (div_ceil x a) k) [
      | inl below ↦ absurd (omega (arith, least (div_ceil x a) below, ceil_covers x a some))
      | inr above ↦ omega (arith, above, ceil_le x a k some enough)
    ]

pub ceil-one : (x : ℕ) → div_ceil x 1 ≡ x
ceil-one x = omega (arith, div-one x, mod-one x)

-- rounded up twice
pub ceil_ceil : (x a b : ℕ) → 0 < a → 0 < b → div_ceil (div_ceil x a) b ≡ div_ceil x (a * b)
ceil_ceil x a b some_a some_b =
    let some : 0 < a * b = omega (arith, mul-le-mul_left {m = 1} {n = b} a (omega arith)) in
    let q = div_ceil x (a * b) in
    let c = div_ceil (div_ceil x a) b in
    let split : q * (a * b) ≡ q * b * a = ap (λ z. q * z) (mul_comm a b) ∙ sym (mul_assoc q b a) in
    let down : c ≤ q = ceil_le (div_ceil x a) b q some_b (ceil_le x a (q * b) some_a
    (omega (arith, ceil_covers x (a * b) some))) in
    let join : c * b * a ≡ c * (a * b) = mul_assoc c b a ∙ ap (λ z. c * z) (mul_comm b a) in
    let more : a * div_ceil x a ≤ a * (c * b) = mul-le-mul_left a (ceil_covers (div_ceil x a) b some_b) in
    let up : q ≤ c = ceil_le x (a * b) c some
    (omega (arith, ceil_covers x a some_a, mul_comm a (div_ceil x a), mul_comm a (c * b))) in
    omega arith
