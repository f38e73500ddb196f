-- The slots up to the next sibling's are those of the group, and the others have default digests.
use Rattle.std.proofs.Common.{arith, ◌≡◌, ◌<◌, length, replicate}
use Rattle.std.proofs.lemmas.List.{length-replicate}
use Rattle.p3_merkle_core.proofs.Lists.GroupFacts.{group_around_is, put_before, put_behind, put_all}
use Rattle.p3_merkle_core.proofs.group.group_with.Goals as goal
use Rattle.p3_merkle_core.proofs.group.group_with.Goals.{then-k-position, else-k-position}

pub loop-k-preserved : goal.loop-k-preserved
loop-k-preserved g c =
    let slots = replicate g.row.N c.args.default_digest in
    let room : length c.args.siblings.now < length slots =
    omega (arith, length-replicate g.row.N c.args.default_digest, c.requires.fits) in
    elim c.if-k-position.branch [
      | then-k-position w ↦
          rw (w.slot-is, c.loop-k.invariant)
          (put_before slots c.args.siblings.now c.args.position c.args.digest c.requires.placed room
          c.loop-k.k c.index-siblings-k.result c.loop-k-test.true c.index-siblings-k.is w.if-k-position.true)
      | else-k-position w ↦
          rw (w.slot-is, c.loop-k.invariant)
          (put_behind slots c.args.siblings.now c.args.position c.args.digest c.requires.placed room
          c.loop-k.k c.index-siblings-k.result c.loop-k-test.true c.index-siblings-k.is w.if-k-position.false)
    ]

pub returns : goal.returns
returns g c =
    let slots = replicate g.row.N c.args.default_digest in
    let room : length c.args.siblings.now < length slots =
    omega (arith, length-replicate g.row.N c.args.default_digest, c.requires.fits) in
    let end : c.loop-k.k ≡ length c.args.siblings.now = omega arith in
    let written = put_all slots c.args.siblings.now c.args.position c.args.digest c.requires.placed room in
    rw (c.loop-k.invariant, end, written)
    (group_around_is g.row.N c.args.default_digest c.args.digest c.args.siblings.now c.args.position c.requires.placed)
