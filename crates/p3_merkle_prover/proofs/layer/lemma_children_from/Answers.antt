use Rattle.std.proofs.Common.{arith, ◌+◌, ◌*◌, ◌≤◌}
use Rattle.std.proofs.Math.Nat.{mul-add, mul-le-mul_left}
use Rattle.p3_merkle_prover.proofs.layer.lemma_children_from.Goals as goal

pub returns : goal.returns
returns g c =
    let v = c.args.level.now in
    let more : v.step * (c.args.first + c.args.count) ≤ v.step * v.raw_len =
    mul-le-mul_left v.step c.requires.nodes in
    omega (arith, more, mul-add v.step c.args.first c.args.count, c.requires.children.fits)
