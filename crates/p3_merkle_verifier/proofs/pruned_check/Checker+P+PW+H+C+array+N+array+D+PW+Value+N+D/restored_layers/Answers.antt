-- The layers so far are those that the definition restores.
use Rattle.std.proofs.Common.{◌∙◌, ◌++◌, ◌∷◌, [], List, ap}
use Rattle.p3_merkle_core.specs.declared.pruning.CoveredLayer.{CoveredLayer}
use Rattle.p3_merkle_verifier.proofs.LayerFacts.{layer_rises}
use Rattle.p3_merkle_verifier.proofs.PathFacts.{layers_more, layers_start}
use Rattle.p3_merkle_verifier.proofs.pruned_check.Checker+P+PW+H+C+array+N+array+D+PW+Value+N+D.restored_layers.Goals as goal

pub loop-level-init : goal.loop-level-init
loop-level-init g c =
    layers_start (c.in_ok-push.ensures.items
    ∙ ap (λ (xs : List (CoveredLayer _)). xs ++ c.args.leaf_layer ∷ []) c.in_ok-layers.ensures.items)
    c.requires.leaf_layer

pub loop-level-preserved : goal.loop-level-preserved
loop-level-preserved g c =
    let restorable = c.args.restorable.now in
    let here = rw (← c.index-below.ensures) at (c.loop-level.invariant.top c.index-below.result.now) in
    let layer = layer_rises restorable.queried restorable.all_sent c.loop-level-test.true here.coverage
    c.in_ok-digests.ensures.restored (rw c.deref.ensures.value at c.in_ok-above.ensures) in
    layers_more c.loop-level.invariant c.index-below.ensures restorable.queried c.loop-level-test.true layer
    c.in_ok-push-2.ensures.items
