-- Powers of two, by their test.
use Rattle.std.proofs.Common.{◌≡◌, ◌≤◌, ◌+◌, ◌/◌, ◌^◌, ◌∙◌, ℕ, zero, suc, ap, arith, inl, inr, sym}
use Rattle.std.proofs.lemmas.Bool.{cases_eq, eqb-true}
use Rattle.std.proofs.lemmas.Nat.{ones_le_self}
use Rattle.std.proofs.Math.Nat.{pow-succ'}
use Rattle.std.specs.Prelude.{true, false}
use Rattle.std.specs.Int.{is_power_of_two}
use Rattle.tlog.proofs.Bits.{power_of_double, power_of_odd, power_of_one}

power_from : (depth n : ℕ) → n ≤ depth → is_power_of_two n ≡ true → (power : ℕ) × (n ≡ 2 ^ power)
power_from zero n small is =
    let none : n ≡ 0 = omega arith in
    let one = eqb-true _ 1 (ap is_power_of_two (sym none) ∙ is) in absurd (omega (arith, one, ones_le_self 0))
power_from (suc depth) n small is =
    let half = n / 2 in
    elim (cases_eq n (half + half)) [
      | inl even ↦ elim (cases_eq n 0) [
        | inl none ↦ power_from depth n (omega arith) is
        | inr some ↦
            let p = power_from depth half (omega arith) (sym (power_of_double half) ∙ ap is_power_of_two (sym even)
            ∙ is)
            in
            let h = p.1 in (suc p.0, omega (arith, even, h, pow-succ' 2 p.0))
      ]
      | inr odd ↦
          let next : n ≡ half + half + 1 = omega arith in
          elim (cases_eq half 0) [
            | inl none ↦ (0, omega arith)
            | inr some ↦
                let no : false ≡ true = sym (power_of_odd half (omega arith)) ∙ ap is_power_of_two (sym next) ∙ is in
                absurd cc
          ]
    ]

pub power_only : (n : ℕ) → is_power_of_two n ≡ true → (power : ℕ) × (n ≡ 2 ^ power)
power_only n is = power_from n n (omega arith) is

pub power_is : (power : ℕ) → is_power_of_two (2 ^ power) ≡ true
power_is zero = power_of_one
power_is (suc power) =
    let twice : 2 ^ suc power ≡ 2 ^ power + 2 ^ power = omega (arith, pow-succ' 2 power) in
    ap is_power_of_two twice ∙ power_of_double (2 ^ power) ∙ power_is power
