-- The digests so far are those of the boundary below the layer that is reached (`so_far`), of which the covered nodes
-- are known.
use Rattle.std.proofs.Common.{◌≡◌, ◌∙◌, ◌≤◌, arith, add-one, ap, length, subst, sym}
use Rattle.p3_support.specs.Batches.{greatest}
use Rattle.p3_merkle_core.specs.Geometry.{Shape, height_limit, heights, levels, step}
use Rattle.p3_merkle_core.specs.Nodes.{shape}
use Rattle.p3_merkle_core.specs.Pruning.{CanQuery}
use Rattle.p3_merkle_core.proofs.Covered.ClimbFacts.{covered_here}
use Rattle.p3_merkle_prover.specs.Parts.{tree_batch}
use Rattle.p3_merkle_prover.proofs.TreeFacts.{layers_count, layer_long}
use Rattle.p3_merkle_prover.proofs.RowFacts.{lawful_fits}
use Rattle.p3_merkle_prover.proofs.BoundaryFacts.{covered_increasing, groups_fit, boundary_more}
use Rattle.p3_merkle_prover.proofs.pruned_opener.boundary_digests.Goals as goal

pub new-covered-requires-clause-low : goal.new-covered-requires-clause-low
new-covered-requires-clause-low g c =
    subst (λ (s : Shape). greatest (heights s) ≤ height_limit) (sym c.tree_schedule-schedule.ensures)
    (lawful_fits (heights (shape (tree_batch c.args.tree.now))) c.args.tree.now.lawful)

pub loop-level-init : goal.loop-level-init
loop-level-init g c = record {
  shape_is = rw c.new-covered.ensures.schedule c.tree_schedule-schedule.ensures;
  indices = c.new-covered.ensures.indices;
  layer = c.new-covered.ensures.layer;
  so_far = λ d. c.in_ok-digests.ensures.items;
}

pub index-requires : goal.index-requires
index-requires g c =
    let count = layers_count (λ nodes. length nodes.items) c.args.tree.now.layers.items
    (shape (tree_batch c.args.tree.now)) c.args.tree.now.layer_lengths in
    omega arith

pub extend_with_boundary-requires-clause-ascending : goal.extend_with_boundary-requires-clause-ascending
extend_with_boundary-requires-clause-ascending g c =
    let at = c.loop-level.invariant in
    let s = shape (tree_batch c.args.tree.now) in
    let here = covered_here c.loop-level.covered s _ _ at.shape_is at.indices at.layer in
    covered_increasing s c.args.indices.now c.loop-level.level c.deref-in-loop-level.result.now
    (c.deref-in-loop-level.ensures.value ∙ here.nodes_are)

pub extend_with_boundary-requires-clause-groups : goal.extend_with_boundary-requires-clause-groups
extend_with_boundary-requires-clause-groups g c =
    let tree = c.args.tree.now in
    let s = shape (tree_batch tree) in
    let l = c.loop-level.level in
    let at = c.loop-level.invariant in
    let here = covered_here c.loop-level.covered s _ _ at.shape_is at.indices at.layer in
    let w : CanQuery s c.args.indices.now c.args.cap_layer =
    record { well_shaped = tree.arity; below = c.requires.indices; in_tree = c.requires.layer } in
    let is = c.step-step.ensures ∙ ap (λ (z : Shape). step z l) c.tree_schedule-schedule.ensures in
    let long = layer_long (λ nodes. length nodes.items) tree.layers.items s tree.layer_lengths l c.index.result.now
    (omega arith) c.index.ensures in
    groups_fit s c.args.indices.now c.args.cap_layer w l c.loop-level-test.true c.step-step.result
    (length c.deref.result.now) c.deref-in-loop-level.result.now
    is (ap length c.deref.ensures.value ∙ long) (c.deref-in-loop-level.ensures.value ∙ here.nodes_are)

pub climb-requires : goal.climb-requires
climb-requires g c =
    let w = c.loop-level.invariant in
    omega (arith, w.layer, c.loop-level.covered.schedule.now.walked.whole, ap levels w.shape_is)

pub loop-level-preserved : goal.loop-level-preserved
loop-level-preserved g c =
    let tree = c.args.tree.now in
    let s = shape (tree_batch tree) in
    let l = c.loop-level.level in
    let at = c.loop-level.invariant in
    let here = covered_here c.loop-level.covered s _ _ at.shape_is at.indices at.layer in
    let w : CanQuery s c.args.indices.now c.args.cap_layer =
    record { well_shaped = tree.arity; below = c.requires.indices; in_tree = c.requires.layer } in
    let is = c.step-step.ensures ∙ ap (λ (z : Shape). step z l) c.tree_schedule-schedule.ensures in
    let long = layer_long (λ nodes. length nodes.items) tree.layers.items s tree.layer_lengths l c.index.result.now
    (omega arith) c.index.ensures in
    let count = layers_count (λ nodes. length nodes.items) tree.layers.items s tree.layer_lengths in
    record {
      shape_is = rw c.climb.ensures.schedule at.shape_is;
      indices = c.climb.ensures.indices ∙ at.indices;
      layer = rw add-one (rw at.layer at c.climb.ensures.layer);
      so_far = λ d.
          boundary_more (λ nodes. nodes.items) tree.layers.items s c.args.indices.now c.args.cap_layer w l
          c.loop-level-test.true c.step-step.result c.index.result.now
          c.deref.result.now c.deref-in-loop-level.result.now c.loop-level.digests.items
          c.extend_with_boundary.new.digests.items d
          is (omega arith) c.index.ensures long c.deref.ensures.value
          (c.deref-in-loop-level.ensures.value ∙ here.nodes_are)
          (at.so_far d) (c.in_ok-extend_with_boundary.ensures.digests d);
    }

pub returns-clause-digests : goal.returns-clause-digests
returns-clause-digests g c d =
    let h : c.loop-level.level ≡ c.args.cap_layer = omega arith in
    rw h at (c.loop-level.invariant.so_far d)
