use Rattle.std.proofs.Common.{ℕ, ◌+◌, ◌%◌, ◌^◌}
use Rattle.sha256_eights.proofs.Lanewise.{itself, splatted, zipped}
use Rattle.p3_hashes.proofs.lanes.U32x8FoldPacked.add_to_each.Goals as goal

pub invariant_of-result : goal.invariant_of-result
invariant_of-result c =
    let self = itself c.args.self.lanes c.args.self.long in
    record { long = (zipped (λ (a b : ℕ). (a + b) % 2 ^ 32) self (splatted c.args.number)).long }

pub returns : goal.returns
returns c = (zipped (λ (a b : ℕ). (a + b) % 2 ^ 32) (itself c.args.self.lanes c.args.self.long)
    (splatted c.args.number)).each
