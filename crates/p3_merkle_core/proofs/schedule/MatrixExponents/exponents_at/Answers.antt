-- The highest of the bits below the layer's tells the exponent.
use Rattle.std.proofs.Common.{◌≡◌, ◌<◌, ◌%◌, ◌^◌, ℕ, ap, arith, rules, ◌∙◌}
use Rattle.std.proofs.Math.Nat.{mod-lt}
use Rattle.std.proofs.lemmas.Nat.{pow_pos}
use Rattle.std.specs.Int.{bit_at}
use Rattle.p3_support.specs.Batches.{heights_of}
use Rattle.p3_merkle_core.proofs.Shapes.ExponentFacts.{bit_of, highest_bit, low_bits}
use Rattle.p3_merkle_core.proofs.schedule.MatrixExponents.exponents_at.Goals.{then-layer, else-layer}
use Rattle.p3_merkle_core.proofs.schedule.MatrixExponents.exponents_at.Goals as goal

pub returns-clause-next : goal.returns-clause-next
returns-clause-next c =
    let x = c.args.layer in
    let bits = c.args.self.now.bits in
    let n = c.if-layer.below in
    let low : (n < 2 ^ x) × ((e : ℕ) → e < x → bit_at n e ≡ bit_at bits e) = elim c.if-layer.branch [
      | then-layer w ↦
          let is : n ≡ bits % 2 ^ x = w.below-is ∙ ap (λ p. bits % p) (bit_of x (omega (arith, w.if-layer.true))) in
          (rw is (mod-lt bits (pow_pos x)), λ e below. ap (λ z. bit_at z e) is ∙ low_bits bits x e below)
      | else-layer w ↦
          let is : x ≡ 64 = omega (arith, w.if-layer.false, c.requires) in
          (rw is (omega arith), λ e below. ap (λ z. bit_at z e) w.below-is)
    ] in
    let top = c.checked_ilog2.ensures in
    let same : c.map.result ≡ c.checked_ilog2.result = search rules in
    record {
      next_is = same ∙ highest_bit (heights_of c.args.self.now.dimensions.now) bits x n c.checked_ilog2.result
          c.args.self.now.marked c.requires low.0 low.1 top.none top.power_le top.next_power_gt;
    }
