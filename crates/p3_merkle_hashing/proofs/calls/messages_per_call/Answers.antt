-- The groups of a call are those that fit, or there is one.
use Rattle.std.proofs.Common.{arith, ◌≡◌, ℕ, ◌+◌, ◌*◌, ◌/◌, ◌<◌, ◌≤◌, max, inl, inr}
use Rattle.std.proofs.Math.Nat.{div-mul-le_self, lt-div-mul-add, mul-le-mul_right, mul-mod_left}
use Rattle.std.proofs.lemmas.Bool.{cases_lt}
use Rattle.p3_merkle_hashing.proofs.calls.messages_per_call.Goals as goal

-- as many groups of l messages of b bytes as n bytes hold are within them
groups_fit : (n b l k : ℕ) → k ≡ max (n / b / l) 1 → k * l * b ≤ max n (l * b)
groups_fit n b l k is =
    elim (cases_lt (n / b / l) 1) [
      | inl none ↦ let one : k ≡ 1 = omega arith in rw one (omega arith)
      | inr some ↦
          let all : k ≡ n / b / l = omega arith in
          let messages : n / b / l * l ≤ n / b = div-mul-le_self (n / b) l in
          let bytes : n / b / l * l * b ≤ n / b * b = mul-le-mul_right b messages in
          rw all (omega (arith, bytes, div-mul-le_self n b))
    ]

-- and one group more is not
group_more : (n b l k : ℕ) → 1 ≤ b → 1 ≤ l → k ≡ max (n / b / l) 1 → max n (l * b) < (k * l + l) * b
group_more n b l k some_bytes some_lanes is =
    let whole : n / b / l * l ≤ k * l = mul-le-mul_right l (omega arith) in
    let messages : n / b < n / b / l * l + l = lt-div-mul-add some_lanes in
    let bytes : (n / b + 1) * b ≤ (k * l + l) * b = mul-le-mul_right b (omega arith) in
    let past : n < n / b * b + b = lt-div-mul-add some_bytes in
    let one : 1 * l ≤ k * l = mul-le-mul_right l (omega arith) in
    let two : (l + l) * b ≤ (k * l + l) * b = mul-le-mul_right b (omega arith) in
    let some : 1 * b ≤ l * b = mul-le-mul_right b some_lanes in
    omega (arith, bytes, past, two, some)

pub returns-clause-whole : goal.returns-clause-whole
returns-clause-whole c = rw c.max-lanes.ensures (mul-mod_left c.max.result (max c.args.lanes 1))

pub returns-clause-some : goal.returns-clause-some
returns-clause-some c = let one : 1 * c.max-lanes.result ≤ c.max.result * c.max-lanes.result =
    mul-le-mul_right c.max-lanes.result (omega arith) in omega (arith, one)

pub returns-clause-fits : goal.returns-clause-fits
returns-clause-fits c =
    rw (← c.max-bytes.ensures, ← c.max-lanes.ensures)
    (groups_fit 16384 c.max-bytes.result c.max-lanes.result c.max.result c.max.ensures)

pub returns-clause-most : goal.returns-clause-most
returns-clause-most c =
    rw (← c.max-bytes.ensures, ← c.max-lanes.ensures)
    (group_more 16384 c.max-bytes.result c.max-lanes.result c.max.result (omega arith) (omega arith) c.max.ensures)
