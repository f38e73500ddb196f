-- One more digest.
use Rattle.std.proofs.Common.{rules, ◌<◌, length}
use Rattle.p3_hashes.proofs.Pieces.{concat_more}
use Rattle.p3_hashes.proofs.sha.hash_group.Goals as goal

pub loop-digest-preserved : goal.loop-digest-preserved
loop-digest-preserved g c =
    let digests = c.args.digests.now in
    let i = c.loop-digest.digest-index in
    let below : i < length digests = search rules in
    rw (concat_more digests i below) (c.update.ensures _ c.loop-digest.invariant)
