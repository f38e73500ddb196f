-- A node is whole in the longest log if its last leaf is among 2^62, and only then is the shift exact.
use Rattle.std.proofs.Common.{arith, inl, inr, ◌∙◌, ◌≡◌, ◌+◌, ◌*◌, ◌^◌, ◌<◌, ◌≤◌, ℕ, min}
use Rattle.std.proofs.Math.Nat.{div-lt_iff_lt-mul, le-div_iff_mul-le, mod-eq_of_lt, mul-le-mul_right, pow-le-pow_right}
use Rattle.std.proofs.lemmas.Bool.Decides.{leb_tells}
use Rattle.std.proofs.lemmas.Nat.{pow_pos}
use Rattle.tlog.specs.Verdicts.{size_limit}
use Rattle.tlog_tree.proofs.wanted.WantedNode.end.Goals as goal

low : (slot layer : ℕ) → (slot + 1) * 2 ^ layer ≤ size_limit → layer < 64
low slot layer h = elim (leb_tells 64 layer) [
  | inr (f, below) ↦ below
  | inl (t, deep) ↦
      let two : 0 < 2 = omega arith in
      let high : 2 ^ 64 ≤ 2 ^ layer = pow-le-pow_right two deep in
      let part : 1 * 2 ^ layer ≤ (slot + 1) * 2 ^ layer = mul-le-mul_right (2 ^ layer) (omega arith) in
      absurd (omega arith)
]

least : (x limit : ℕ) → x ≤ limit → x ≡ min x (limit + 1)
least x limit h = omega arith

most : (x limit : ℕ) → limit < x → limit + 1 ≡ min x (limit + 1)
most x limit h = omega arith

pub overflow_shl-result : goal.overflow_shl-result
overflow_shl-result c =
    let below = c.if-self-whole_count.true in
    low c.args.self.now.id.slot c.args.self.now.id.layer
    ((le-div_iff_mul-le (pow_pos c.args.self.now.id.layer)).0 (omega (arith, c.whole_count.ensures, below)))

pub returns-then-self-whole_count : goal.returns-then-self-whole_count
returns-then-self-whole_count c =
    let all = (le-div_iff_mul-le (pow_pos c.args.self.now.id.layer)).0
    (omega (arith, c.whole_count.ensures, c.if-self-whole_count.true)) in
    let fits : (c.args.self.now.id.slot + 1) * 2 ^ c.args.self.now.id.layer < 2 ^ 64 = omega (arith, all) in
    mod-eq_of_lt fits ∙ least _ size_limit all

pub returns-else-self-whole_count : goal.returns-else-self-whole_count
returns-else-self-whole_count c =
    most _ size_limit ((div-lt_iff_lt-mul (pow_pos c.args.self.now.id.layer)).0
    (omega (arith, c.whole_count.ensures, c.if-self-whole_count.false)))
