-- The layer that is reached is the one that the definition restores.
use Rattle.std.proofs.Common.{◌≡◌, add-one, arith}
use Rattle.p3_merkle_verifier.proofs.LayerFacts.{layer_rises, leaves_are}
use Rattle.p3_merkle_verifier.proofs.pruned_check.Checker+P+PW+H+C+array+N+array+D+PW+Value+N+D.top_layer.Goals as goal

pub loop-level-init : goal.loop-level-init
loop-level-init g c = leaves_are c.requires.leaf_layer

pub loop-level-preserved : goal.loop-level-preserved
loop-level-preserved g c =
    let restorable = c.args.restorable.now in
    let at = c.loop-level.invariant.coverage in
    rw add-one (layer_rises restorable.queried restorable.all_sent c.loop-level-test.true
    (record { shape_is = at.shape_is; indices_are = at.indices_are; layer_is = at.layer_is })
    c.in_ok-digests.ensures.restored (rw c.deref.ensures.value at c.in_ok-layer.ensures))

pub returns : goal.returns
returns g c =
    let all : c.loop-level.level ≡ c.args.restorable.now.cap_layer = omega arith in rw all at c.loop-level.invariant
