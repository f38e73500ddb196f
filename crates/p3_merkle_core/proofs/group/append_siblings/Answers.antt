-- The digests so far are the first of the group without the one at the position (`so_far`).
use Rattle.std.proofs.Common.{arith}
use Rattle.std.proofs.lemmas.Bool.{le-leb, lt-leb}
use Rattle.p3_merkle_core.proofs.Covered.KeptFacts.{other_more}
use Rattle.p3_merkle_core.proofs.group.append_siblings.Goals as goal

pub loop-place-preserved : goal.loop-place-preserved
loop-place-preserved g c =
    let place = c.loop-place.place in
    let p = c.args.position in
    record {
      begun = omega arith;
      so_far = other_more c.args.group.now p place c.from.result c.args.digests.now.items c.loop-place.digests.items
          c.push.new.self.items c.index-group-place.result (omega arith) (omega (arith, c.loop-place.invariant.begun))
          (omega (arith, c.loop-place-test.true)) (λ h. let b = le-leb place p h in rw b at c.from.ensures)
          (λ h. let b = lt-leb place p h in rw b at c.from.ensures)
          c.index-group-place.is c.loop-place.invariant.so_far c.in_ok-push.ensures.items;
    }
