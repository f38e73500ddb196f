-- The largest power of two below a number, and that of half the number.
use Rattle.std.proofs.Common.{◌≡◌, ℕ, zero, suc, ◌+◌, ◌-◌, ◌*◌, ◌/◌, ◌^◌, ◌<◌, ◌≤◌, refl, sym, ap, ◌∙◌, arith, inl, inr}
use Rattle.std.specs.Prelude.{◌⊎◌, true, false, nat_lt}
use Rattle.std.proofs.lemmas.Bool.Decides.{leb_tells, nat_tests}
use Rattle.std.proofs.Math.Nat.{pow-le-pow_right, pow-succ'}
use Rattle.tlog.specs.Rfc9162.{doubled, split}

pub record IsSplit (n k : ℕ) : Type 0 where
  pub some : 0 < k
  pub below : k < n
  pub half : n ≤ k + k
  pub power : (j : ℕ) × (k ≡ 2 ^ j)

from_doubled : (times k n j : ℕ) → k ≡ 2 ^ j → 0 < k → k < n → n ≤ 2 * k + times → IsSplit n (doubled times k n)
unfolding doubled
from_doubled zero k n j e some below enough =
    record { some = some; below = below; half = omega arith; power = (j, e) }
from_doubled (suc times) k n j e some below enough =
    elim (leb_tells (suc (2 * k)) n) [
      | inl (t, h) ↦
          let twice : 2 * k ≡ 2 ^ suc j = ap (λ (x : ℕ). 2 * x) e ∙ sym (pow-succ' 2 j) in
          rw (t, doubled) (from_doubled times (2 * k) n (suc j) twice (omega arith) h (omega arith))
      | inr (f, h) ↦
          rw (f, doubled)
          (let r : IsSplit n k = record { some = some; below = below; half = omega arith; power = (j, e) } in r)
    ]

pub split_is : (n : ℕ) → 2 ≤ n → IsSplit n (split n)
split_is n h = from_doubled n 1 n 0 refl (omega arith) (omega arith) (omega arith)

-- twice as often doubled, twice the number: for all times that are enough
halved : (times more k n h : ℕ) → h ≡ (n + 1) / 2 → 0 < k → k < h → n ≤ 4 * k + times → h ≤ 2 * k + more →
    doubled times (2 * k) n ≡ 2 * doubled more k h
unfolding doubled
halved zero zero k n h e some below enough m = refl
halved (suc times) zero k n h e some below enough m =
    let f : nat_lt (2 * (2 * k)) n ≡ false = grind (arith, nat_tests) in rw (f, doubled)
halved zero (suc more) k n h e some below enough m =
    let f : nat_lt (2 * k) h ≡ false = grind (arith, nat_tests) in rw (f, doubled)
halved (suc times) (suc more) k n h e some below enough m =
    elim (leb_tells (suc (2 * k)) h) [
      | inl (t, l) ↦
          let u : nat_lt (2 * (2 * k)) n ≡ true = grind (arith, nat_tests) in
          rw (t, doubled, u, doubled) (halved times more (2 * k) n h e (omega arith) l (omega arith) (omega arith))
      | inr (f, l) ↦
          let g : nat_lt (2 * (2 * k)) n ≡ false = grind (arith, nat_tests) in
          rw (f, doubled, g, doubled)
    ]

pub split_of_half : (n h : ℕ) → 3 ≤ n → h ≡ (n + 1) / 2 → split n ≡ split h + split h
unfolding doubled
split_of_half (suc n) h three e =
    let t : nat_lt 2 (suc n) ≡ true = grind (arith, nat_tests) in
    rw (t, doubled) (halved n h 1 (suc n) h e (omega arith) (omega arith) (omega arith) (omega arith) ∙ omega arith)
split_of_half zero h three e = absurd (omega arith)

pub split_of_two : split 2 ≡ 1
unfolding doubled
split_of_two = refl

-- it is 1 or even
pub split_parity : (n : ℕ) → 2 ≤ n → (split n ≡ 1) ⊎ ((j : ℕ) × (split n ≡ j + j))
split_parity n two = elim (leb_tells 3 n) [
  | inl (t, three) ↦ inr (split ((n + 1) / 2), split_of_half n ((n + 1) / 2) three refl)
  | inr (f, h) ↦ let e : n ≡ 2 = omega arith in inl (ap split e ∙ split_of_two)
]

-- it is the power of two with n - 1 between it and twice it
pub split_by_power : (n j : ℕ) → 1 < n → 2 ^ j ≤ n - 1 → n - 1 < 2 * 2 ^ j → 2 ^ j ≡ split n
split_by_power n j more low high =
    let s = split_is n more in
    let i = s.power.0 in
    let e : split n ≡ 2 ^ i = s.power.1 in
    let below = s.below in let half = s.half in
    elim (leb_tells (suc i) j) [
      | inl (t, h) ↦
          let p : 2 ^ suc i ≤ 2 ^ j = pow-le-pow_right (omega arith) h in
          let q : 2 ^ suc i ≡ 2 * 2 ^ i = pow-succ' 2 i in absurd (omega arith)
      | inr (f, h) ↦ elim (leb_tells (suc j) i) [
        | inl (t, l) ↦
            let p : 2 ^ suc j ≤ 2 ^ i = pow-le-pow_right (omega arith) l in
            let q : 2 ^ suc j ≡ 2 * 2 ^ j = pow-succ' 2 j in absurd (omega arith)
        | inr (g, l) ↦ let same : i ≡ j = omega arith in ap (λ (x : ℕ). 2 ^ x) (sym same) ∙ sym e
      ]
    ]
