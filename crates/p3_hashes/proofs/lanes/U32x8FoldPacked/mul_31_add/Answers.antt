-- Vectors multiply and add in each lane alone.
use Rattle.std.proofs.Common.{◌≡◌, ℕ, ◌+◌, ◌*◌, ◌%◌, ◌^◌, ◌∙◌, List, length, replicate, slice_index}
use Rattle.std.specs.Simd.Lanes.{zip2}
use Rattle.p3_hashes.proofs.FoldSteps.{taken_in}
use Rattle.sha256_eights.proofs.Lanewise.{Eight, itself, splatted, zipped}
use Rattle.p3_hashes.proofs.lanes.U32x8FoldPacked.mul_31_add.Goals as goal

sums : (s w : List ℕ) → length s ≡ 8 → length w ≡ 8
    → Eight (zip2 (λ a b. (a + b) % 2 ^ 32) (zip2 (λ a b. (a * b) % 2 ^ 32) s (replicate 8 31)) w)
    (λ k. ((slice_index s k * 31) % 2 ^ 32 + slice_index w k) % 2 ^ 32)
sums s w long too = zipped _ (zipped _ (itself s long) (splatted 31)) (itself w too)

pub invariant_of-result : goal.invariant_of-result
invariant_of-result c =
    record { long = (sums c.args.self.lanes c.args.word.lanes c.args.self.long c.args.word.long).long }

pub returns : goal.returns
returns c = λ k below. (sums c.args.self.lanes c.args.word.lanes c.args.self.long c.args.word.long).each k below
    ∙ taken_in _ _
