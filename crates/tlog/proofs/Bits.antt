-- The lowest bits of a number and of twice that number.
use Rattle.std.proofs.Common.{◌≡◌, ℕ, zero, suc, ◌+◌, ◌*◌, ◌/◌, ◌%◌, ◌^◌, ◌<◌, ◌≤◌, ◌≢◌, refl, sym, ap, ◌∙◌, arith}
use Rattle.std.proofs.Common.{inl, inr}
use Rattle.std.proofs.lemmas.Nat.{zero_from_ones}
use Rattle.std.proofs.lemmas.Nat.Bits.{bit_at_lowest, bit_at-suc, bit_at-trailing_ones, bit_at-trailing_zeros}
use Rattle.std.proofs.lemmas.Bool.Decides.{leb_tells, nat_tests}
use Rattle.std.proofs.Math.Nat.{div-div-eq-div-mul, mul_left_comm, pow-succ'}
use Rattle.std.proofs.lemmas.Bool.{cases_eq}
use Rattle.std.specs.Prelude.{◌==◌, true, false}
use Rattle.std.specs.Int.{bit_at, w64, is_power_of_two, trailing_zeros, trailing_ones}
use Rattle.std.specs.Int.Count.{ones, ones_step}

pub half_double : (n : ℕ) → (n + n) / 2 ≡ n
half_double n = omega arith

pub half_odd : (n : ℕ) → (n + n + 1) / 2 ≡ n
half_odd n = omega arith

-- a layer up is a half
pub half_pow : (n t : ℕ) → n / 2 ^ suc t ≡ n / 2 / 2 ^ t
half_pow n t = ap (λ (p : ℕ). n / p) (pow-succ' 2 t) ∙ sym (div-div-eq-div-mul n 2 (2 ^ t))

-- ---- powers of two

pub power_of_double : (n : ℕ) → is_power_of_two (n + n) ≡ is_power_of_two n
power_of_double n =
    let parity : (n + n) % 2 ≡ 0 = omega arith in
    let e : ones (n + n) ≡ ones n =
    ones_step (n + n) ∙ ap (λ (x : ℕ). x + ones ((n + n) / 2)) parity ∙ ap (λ (x : ℕ). 0 + ones x) (half_double n)
    ∙ omega arith in
    ap (λ (x : ℕ). x == 1) e

pub power_of_odd : (n : ℕ) → 0 < n → is_power_of_two (n + n + 1) ≡ false
power_of_odd n some =
    let parity : (n + n + 1) % 2 ≡ 1 = omega arith in
    let e : ones (n + n + 1) ≡ 1 + ones n =
    ones_step (n + n + 1) ∙ ap (λ (x : ℕ). x + ones ((n + n + 1) / 2)) parity
    ∙ ap (λ (x : ℕ). 1 + ones x) (half_odd n) in
    let other : ones n ≢ 0 = λ z. let no = zero_from_ones n z in omega arith in
    grind (arith, nat_tests)

pub power_of_one : is_power_of_two 1 ≡ true
unfolding ones
power_of_one = refl

-- ---- the lowest bit that is set, or not

lowest : (n s t b c : ℕ) → b ≢ c → bit_at n s ≡ b → ((i : ℕ) → i < s → bit_at n i ≡ c) → bit_at n t ≡ b →
    ((i : ℕ) → i < t → bit_at n i ≡ c) → s ≡ t
lowest n s t b c other at_s below_s at_t below_t =
    elim (leb_tells (suc s) t) [
      | inl (f, h) ↦ absurd (other (sym at_s ∙ below_t s h))
      | inr (f, h) ↦ elim (leb_tells (suc t) s) [
        | inl (g, l) ↦ absurd (other (sym at_t ∙ below_s t l))
        | inr (g, l) ↦ omega arith
      ]
    ]

-- the bits of a number whose half is n, above the lowest
above : (n m i : ℕ) → m / 2 ≡ n → bit_at m (suc i) ≡ bit_at n i
above n m i e = bit_at-suc m i ∙ ap (λ (x : ℕ). bit_at x i) e

each_above : (n m t c : ℕ) → m / 2 ≡ n → bit_at m 0 ≡ c → ((i : ℕ) → i < t → bit_at n i ≡ c) → (i : ℕ) → i < suc t →
    bit_at m i ≡ c
each_above n m t c e first rest zero h = first
each_above n m t c e first rest (suc i) h = above n m i e ∙ rest i (omega arith)

pub zeros_of_double : (n : ℕ) → 0 < n → n ≤ 2 ^ 62 → trailing_zeros w64 (n + n) ≡ suc (trailing_zeros w64 n)
zeros_of_double n some small =
    let a = bit_at-trailing_zeros w64 (n + n) (omega arith) (omega arith) in
    let b = bit_at-trailing_zeros w64 n some (omega arith) in
    let first : bit_at (n + n) 0 ≡ 0 = bit_at_lowest (n + n) ∙ omega arith in
    lowest (n + n) _ _ 1 0 (λ e. omega arith) a.1 a.2 (above n (n + n) _ (half_double n) ∙ b.1)
    (each_above n (n + n) _ 0 (half_double n) first b.2)

pub zeros_of_odd : (n : ℕ) → n ≤ 2 ^ 62 → trailing_zeros w64 (n + n + 1) ≡ 0
zeros_of_odd n small =
    let a = bit_at-trailing_zeros w64 (n + n + 1) (omega arith) (omega arith) in
    lowest (n + n + 1) _ 0 1 0 (λ e. omega arith) a.1 a.2 (bit_at_lowest (n + n + 1) ∙ omega arith)
    (λ i h. absurd (omega arith))

pub ones_of_odd : (n : ℕ) → n ≤ 2 ^ 62 → trailing_ones w64 (n + n + 1) ≡ suc (trailing_ones w64 n)
ones_of_odd n small =
    let a = bit_at-trailing_ones w64 (n + n + 1) (omega arith) in
    let b = bit_at-trailing_ones w64 n (omega arith) in
    let first : bit_at (n + n + 1) 0 ≡ 1 = bit_at_lowest (n + n + 1) ∙ omega arith in
    lowest (n + n + 1) _ _ 0 1 (λ e. omega arith) a.1 a.2 (above n (n + n + 1) _ (half_odd n) ∙ b.1)
    (each_above n (n + n + 1) _ 1 (half_odd n) first b.2)

pub ones_of_double : (n : ℕ) → n ≤ 2 ^ 62 → trailing_ones w64 (n + n) ≡ 0
ones_of_double n small =
    let a = bit_at-trailing_ones w64 (n + n) (omega arith) in
    lowest (n + n) _ 0 0 1 (λ e. omega arith) a.1 a.2 (bit_at_lowest (n + n) ∙ omega arith)
    (λ i h. absurd (omega arith))

-- the last whole node up to x, where the ones of x end
pub ones_whole : (depth x : ℕ) → x ≤ depth → x ≤ 2 ^ 62 →
    (x / 2 ^ trailing_ones w64 x + 1) * 2 ^ trailing_ones w64 x ≡ x + 1
ones_whole zero x enough small =
    let none : x ≡ 0 = omega arith in
    let t : trailing_ones w64 x ≡ 0 = ap (λ (n : ℕ). trailing_ones w64 n) none ∙ ones_of_double 0 (omega arith) in
    rw t (let all : (x / 2 ^ 0 + 1) * 2 ^ 0 ≡ x + 1 = omega arith in all)
ones_whole (suc depth) x enough small = elim (cases_eq (x % 2) 0) [
  | inl even ↦
      let e : x ≡ x / 2 + x / 2 = omega arith in
      let t : trailing_ones w64 x ≡ 0 = ap (λ (n : ℕ). trailing_ones w64 n) e ∙ ones_of_double (x / 2) (omega arith) in
      rw t (let all : (x / 2 ^ 0 + 1) * 2 ^ 0 ≡ x + 1 = omega arith in all)
  | inr odd ↦
      let i = x / 2 in
      let o = trailing_ones w64 i in
      let e : x ≡ i + i + 1 = omega arith in
      let t : trailing_ones w64 x ≡ suc o = ap (λ (n : ℕ). trailing_ones w64 n) e ∙ ones_of_odd i (omega arith) in
      let up = ones_whole depth i (omega arith) (omega arith) in
      let times = mul_left_comm (i / 2 ^ o + 1) 2 (2 ^ o) in
      rw (t, half_pow x o, pow-succ' 2 o) (times ∙ omega (arith, up, odd))
]
