-- The parents are covered, and what is left of the digests that were sent is enough.
use Rattle.std.proofs.Common.{◌≡◌, ◌∙◌, ap, arith, suc}
use Rattle.std.proofs.lemmas.List.{length-drop, take_rest}
use Rattle.p3_merkle_core.specs.Geometry.{has_rows, step}
use Rattle.p3_merkle_core.specs.Pruning.{boundary_at}
use Rattle.p3_merkle_core.proofs.Covered.ClimbFacts.{covered_here, shape_over}
use Rattle.p3_merkle_core.proofs.Covered.ValueFacts.{family_by_counts}
use Rattle.p3_merkle_core.proofs.Lists.ListFacts.{length-joined_le}
use Rattle.p3_merkle_verifier.specs.Inner.RestoredLevels.{tree_of}
use Rattle.p3_merkle_verifier.proofs.LayerFacts.{covers}
use Rattle.p3_merkle_verifier.proofs.pruned_check.layer_above.Goals as goal

pub offset_bounds-restorable-below : goal.offset_bounds-restorable-below
offset_bounds-restorable-below g c =
    let restorable = c.args.restorable.now in
    let all = length-joined_le (boundary_at (tree_of restorable) restorable.opening.indices.now) c.args.level
    restorable.cap_layer (omega arith) in
    omega (arith, all, (covers c.requires.coverage).boundary_is, restorable.all_sent)

pub slice_bounds-left-count : goal.slice_bounds-left-count
slice_bounds-left-count g c =
    let restorable = c.args.restorable.now in
    let all = length-joined_le (boundary_at (tree_of restorable) restorable.opening.indices.now) c.args.level
    restorable.cap_layer (omega arith) in
    omega (arith, all, (covers c.requires.coverage).boundary_is, restorable.all_sent)

pub slice_bounds-left-start : goal.slice_bounds-left-start
slice_bounds-left-start g c =
    let restorable = c.args.restorable.now in
    let all = length-joined_le (boundary_at (tree_of restorable) restorable.opening.indices.now) c.args.level
    restorable.cap_layer (omega arith) in
    omega (arith, all, (covers c.requires.coverage).boundary_is, restorable.all_sent)

pub children_of-requires : goal.children_of-requires
children_of-requires g c =
    let restorable = c.args.restorable.now in
    let s = tree_of restorable in
    let sent = restorable.opening.sent.now in
    let at = c.requires.coverage in
    let shape_is : shape_over c.in_ok-covered.covered ≡ s = rw c.in_ok-covered.ensures.schedule at.shape_is in
    let layer_is = c.in_ok-covered.ensures.layer ∙ at.layer_is in
    let above_is : c.climb-step.new.self.layer ≡ suc c.args.level = c.climb-step.ensures.layer ∙ ap suc layer_is in
    let step_is = c.climb-step.ensures.step ∙ (λ i. step (shape_is i) (layer_is i)) in
    let shape_above : shape_over c.climb-step.new.self ≡ s = rw c.climb-step.ensures.schedule shape_is in
    let indices_are = c.climb-step.ensures.indices ∙ c.in_ok-covered.ensures.indices ∙ at.indices_are in
    let here = covers at in
    let above = covered_here c.climb-step.new.self s _ _ shape_above indices_are above_is in
    rw (c.deref.ensures.value, c.deref-2.ensures.value, take_rest sent c.args.below.now.covered.boundary_below)
    (family_by_counts s restorable.opening.indices.now restorable.cap_layer restorable.queried restorable.low
    c.args.level c.requires.level c.climb-step.result.step _ _ c.args.digests.now _
    step_is above.nodes_are here.nodes_are c.requires.digests
    (omega (arith, length-drop c.args.below.now.covered.boundary_below sent, here.boundary_is, restorable.all_sent)))

pub returns : goal.returns
returns g c =
    let restorable = c.args.restorable.now in
    let s = tree_of restorable in
    let sent = restorable.opening.sent.now in
    let at = c.requires.coverage in
    let shape_is : shape_over c.in_ok-covered.covered ≡ s = rw c.in_ok-covered.ensures.schedule at.shape_is in
    let layer_is = c.in_ok-covered.ensures.layer ∙ at.layer_is in
    let above_is : c.climb-step.new.self.layer ≡ suc c.args.level = c.climb-step.ensures.layer ∙ ap suc layer_is in
    let step_is = c.climb-step.ensures.step ∙ (λ i. step (shape_is i) (layer_is i)) in
    let shape_above : shape_over c.climb-step.new.self ≡ s = rw c.climb-step.ensures.schedule shape_is in
    let indices_are = c.climb-step.ensures.indices ∙ c.in_ok-covered.ensures.indices ∙ at.indices_are in
    record {
      step_is = step_is;
      rows_are = c.climb-step.ensures.rows ∙ (λ i. has_rows (shape_is i) (above_is i));
      coverage = record { shape_is = shape_above; indices_are = indices_are; layer_is = above_is };
      values = rw (
        c.deref.ensures.value,
        c.deref-2.ensures.value,
        take_rest sent c.args.below.now.covered.boundary_below,
      ) at c.in_ok-children.ensures;
    }
