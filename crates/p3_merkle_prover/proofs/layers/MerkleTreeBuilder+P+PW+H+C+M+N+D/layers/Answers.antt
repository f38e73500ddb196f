-- The layers so far are those of the definition, and the exponent and the number of nodes are the last one's.
use Rattle.std.proofs.Common.{◌≡◌, ◌∙◌, arith}
use Rattle.std.proofs.lemmas.List.{map-append}
use Rattle.p3_merkle_core.specs.Geometry.{levels, shape_of}
use Rattle.p3_merkle_prover.specs.Inner.Slots.{batch_for, functions_for}
use Rattle.p3_merkle_prover.proofs.BuildFacts.{below_top, built_all, built_first, built_more, can_raise, layers_long}
use Rattle.p3_merkle_prover.proofs.BuildFacts.{slots_are, CanRaise}
use Rattle.p3_merkle_prover.proofs.LayerFacts.{layer_next}
use Rattle.p3_merkle_prover.proofs.layers.MerkleTreeBuilder+P+PW+H+C+M+N+D.layers.Goals as goal

pub loop-below-init : goal.loop-below-init
loop-below-init g c =
    let schedule = c.args.self.now.schedule.now in
    rw (c.in_ok-push.ensures.items, c.in_ok-layers.ensures.items)
    (built_first c.args.self.now.build schedule.exponent schedule.max_height c.in_ok-leaves.leaves.items
    (rw c.args.self.now.arity at schedule.walked.leaves) schedule.walked.tallest c.in_ok-leaves.ensures)

pub layer_above-level-requires : goal.layer_above-level-requires
layer_above-level-requires g c =
    let schedule = c.args.self.now.schedule.now in
    let top : schedule.num_levels ≡ levels (shape_of g.row.N schedule.dimensions.now) =
    rw c.args.self.now.arity at schedule.walked.whole in
    rw c.args.self.now.arity (below_top c.args.self.now.build c.loop-below.invariant (omega (arith, top)))

pub index-requires : goal.index-requires
index-requires g c = omega (arith, layers_long c.loop-below.layers.items c.loop-below.invariant)

pub lemma_children-requires-clause-slots : goal.lemma_children-requires-clause-slots
lemma_children-requires-clause-slots g c =
    let above : CanRaise (functions_for c.args.self.now) (batch_for c.args.self.now) c.layer_above-level.result
    c.as_slice-nodes.result.now =
    can_raise c.loop-below.layers.items c.args.self.now.build c.loop-below.invariant c.args.self.now.arity
    c.layer_above-level.ensures.level c.layer_above-level.ensures.below c.index.ensures
    c.as_slice-nodes.ensures.value in
    slots_are c.args.self.now.build c.args.self.now.arity above

pub loop-below-preserved : goal.loop-below-preserved
loop-below-preserved g c =
    let f = functions_for c.args.self.now in
    let below = c.as_slice-nodes.result.now in
    let level = c.layer_above-level.result in
    let above : CanRaise f (batch_for c.args.self.now) level below = can_raise c.loop-below.layers.items
    c.args.self.now.build c.loop-below.invariant c.args.self.now.arity c.layer_above-level.ensures.level
    c.layer_above-level.ensures.below c.index.ensures c.as_slice-nodes.ensures.value in
    rw (c.in_ok-push-2.ensures.items, map-append)
    (built_more c.loop-below.invariant below c.in_ok-layer.layer.items level above c.layer_above-level.ensures.below
    (c.in_ok-layer.ensures
    ∙ layer_next f g.row.N g.M.Matrix.height_of g.M.Matrix.width_of g.M.Matrix.row_of c.args.self.now.matrices.now level
    below above.level above.lawful above.is_below))

pub returns : goal.returns
returns g c =
    let schedule = c.args.self.now.schedule.now in
    let top : schedule.num_levels ≡ levels (shape_of g.row.N schedule.dimensions.now) =
    rw c.args.self.now.arity at schedule.walked.whole in
    built_all c.args.self.now.build c.loop-below.invariant (omega (arith, top))
