-- A number that passes the test of arities is one.
use Rattle.std.proofs.Common.{◌≡◌, ℕ, zero, suc, ◌+◌, ◌^◌, ◌<◌, ◌≤◌, true, eqb, refl, arith, inl, inr, ◌-◌, get_or, ap}
use Rattle.std.proofs.Common.{sym, ◌∙◌}
use Rattle.std.proofs.lemmas.List.Folds.{list_any_at}
use Rattle.std.proofs.Math.Pow.{pow_mono}
use Rattle.std.proofs.Math.Nat.{two-pow-succ}
use Rattle.std.proofs.lemmas.Nat.{pow_pos}
use Rattle.std.proofs.lemmas.List.FromFn.{get_or-range_with_len, length-range_with_len}
use Rattle.std.proofs.lemmas.Bool.{cases_Bool, cases_eq, cases_lt, eq-eqb, eqb-true, false≢true}
use Rattle.std.specs.Prelude.{IsTrue}
use Rattle.std.specs.List.{list_any, range_with_len}
use Rattle.p3_merkle_core.specs.Geometry.{exponent, is_arity, IsArity}
use Rattle.p3_merkle_core.proofs.Shapes.LeastFacts.{exponent_is}

some_power : (n a m : ℕ) → list_any (λ k. eqb n (2 ^ suc k)) (range_with_len a m) ≡ true → (k : ℕ) × (k < a + m) ×
    (n ≡ 2 ^ suc k)
some_power n a zero e = absurd (false≢true e)
some_power n a (suc m) e =
    elim (cases_Bool (eqb n (2 ^ suc a))) [
      | inl t ↦ (a, omega arith, eqb-true n (2 ^ suc a) t)
      | inr f ↦ let later = some_power n (a + 1) m (rw f at e) in (later.0, let high = later.1 in omega arith, later.2)
    ]

pub exponent_of_power : (k : ℕ) → exponent (2 ^ k) ≡ k
exponent_of_power k = exponent_is (2 ^ k) k (omega arith) (λ j below. let next : suc j ≤ k = omega arith in
    omega (arith, pow_mono {i = suc j} {j = k} next, two-pow-succ j, pow_pos j))

pub arity_from : (n : ℕ) → IsTrue (is_arity n) → IsArity n
arity_from n test =
    let some = some_power n 0 62 test in
    let k = suc some.0 in
    let is = some.2 in
    let below = some.1 in
    let low : 2 ^ 1 ≤ 2 ^ k = pow_mono {i = 1} {j = k} (omega arith) in
    let high : 2 ^ k ≤ 2 ^ 62 = pow_mono {i = k} {j = 62} (omega arith) in
    record { power = rw is (rw (exponent_of_power k) refl); above_1 = rw is (omega arith); fits = rw is high }

-- an arity passes the test
pub is_arity_from : (n : ℕ) → IsArity n → IsTrue (is_arity n)
is_arity_from n w =
    let e = exponent n in
    let two = w.above_1 in
    let fits = w.fits in
    let some : 0 < e = elim (cases_eq e 0) [
      | inl z ↦ let one = rw z at w.power in absurd (omega arith)
      | inr nz ↦ omega arith
    ] in
    let low : e ≤ 62 = elim (cases_lt 62 e) [
      | inl above ↦ let high : 2 ^ 63 ≤ 2 ^ e = pow_mono {i = 63} {j = e} (omega arith) in let is = w.power in
          absurd (omega arith)
      | inr below ↦ below
    ] in
    let place : get_or (range_with_len 0 62) (e - 1) 0 ≡ e - 1 = get_or-range_with_len 0 62 (e - 1) 0 (omega arith)
    ∙ omega arith in
    let up : suc (e - 1) ≡ e = omega arith in
    list_any_at (λ k. eqb n (2 ^ suc k)) (range_with_len 0 62) (e - 1) 0 (omega (arith, length-range_with_len 0 62))
    (eq-eqb n (2 ^ suc (get_or (range_with_len 0 62) (e - 1) 0))
    (w.power ∙ ap (λ k. 2 ^ k) (sym up ∙ ap (λ k. suc k) (sym place))))
