-- The siblings so far are those of the levels below the one that is reached, where the ancestor of the index is the
-- node.
use Rattle.std.proofs.Common.{◌≡◌, ◌≤◌, ◌∙◌, ℕ, ap, arith, sym, subst, length, refl}
use Rattle.p3_support.specs.Batches.{greatest}
use Rattle.p3_merkle_core.specs.Geometry.{Shape, height_limit, heights, levels, step}
use Rattle.p3_merkle_core.specs.Nodes.{shape}
use Rattle.p3_merkle_core.specs.Openings.{level_siblings, node_in}
use Rattle.p3_merkle_core.proofs.Shapes.StepFacts.{anc_start, step_above_1}
use Rattle.p3_merkle_core.proofs.Lists.ListFacts.{joined}
use Rattle.p3_merkle_prover.specs.Parts.{layers_of, tree_batch}
use Rattle.p3_merkle_prover.proofs.TreeFacts.{layers_count}
use Rattle.p3_merkle_prover.proofs.OwnFacts.{group_next, group_of, node_next}
use Rattle.p3_merkle_prover.proofs.RowFacts.{lawful_fits}
use Rattle.p3_merkle_prover.proofs.opener.siblings_of_index.Goals as goal

pub loop-level-init : goal.loop-level-init
loop-level-init g c =
    (λ d. c.in_ok-siblings.ensures.items, sym (anc_start (shape (tree_batch c.args.tree.now)) c.args.index))

pub siblings_below-requires-clause-arity : goal.siblings_below-requires-clause-arity
siblings_below-requires-clause-arity g c = rw (ap (λ s. s.arity) c.requires.own) c.args.tree.now.arity

pub siblings_below-requires-clause-low : goal.siblings_below-requires-clause-low
siblings_below-requires-clause-low g c =
    subst (λ (s : Shape). greatest (heights s) ≤ height_limit) (sym c.requires.own)
    (lawful_fits (heights (shape (tree_batch c.args.tree.now))) c.args.tree.now.lawful)

pub siblings_below-requires-clause-layer : goal.siblings_below-requires-clause-layer
siblings_below-requires-clause-layer g c = omega (arith, c.args.schedule.now.walked.whole, ap levels c.requires.own)

pub step-step-requires : goal.step-step-requires
step-step-requires g c = omega (arith, c.args.schedule.now.walked.whole, ap levels c.requires.own)

pub position_of-position-requires : goal.position_of-position-requires
position_of-position-requires g c =
    let s = shape (tree_batch c.args.tree.now) in
    let is = c.step-step.ensures ∙ ap (λ (z : Shape). step z c.loop-level.level) c.requires.own in
    omega (arith, is, step_above_1 s c.loop-level.level c.args.tree.now.arity.above_1)

pub index-requires : goal.index-requires
index-requires g c =
    let count = layers_count (λ nodes. length nodes.items) c.args.tree.now.layers.items
    (shape (tree_batch c.args.tree.now)) c.args.tree.now.layer_lengths in
    omega arith

pub offset_bounds-deref-first : goal.offset_bounds-deref-first
offset_bounds-deref-first g c =
    let w = group_of c.args.tree.now c.args.index c.loop-level.level c.args.layer c.requires.own c.requires.index
    c.requires.layer c.loop-level-test.true c.loop-level.invariant.1 c.step-step.ensures c.index.ensures in
    rw c.deref.ensures.value (omega (arith, w.wide, w.fits, c.position_of-position.ensures))

pub slice_bounds-group-end : goal.slice_bounds-group-end
slice_bounds-group-end g c =
    let w = group_of c.args.tree.now c.args.index c.loop-level.level c.args.layer c.requires.own c.requires.index
    c.requires.layer c.loop-level-test.true c.loop-level.invariant.1 c.step-step.ensures c.index.ensures in
    rw c.deref.ensures.value (omega (arith, w.wide, w.fits, c.position_of-position.ensures))

pub overflow_add-group : goal.overflow_add-group
overflow_add-group g c =
    let w = group_of c.args.tree.now c.args.index c.loop-level.level c.args.layer c.requires.own c.requires.index
    c.requires.layer c.loop-level-test.true c.loop-level.invariant.1 c.step-step.ensures c.index.ensures in
    omega (arith, w.wide, w.fits, c.position_of-position.ensures)

pub parent_of-node-requires : goal.parent_of-node-requires
parent_of-node-requires g c =
    let w = group_of c.args.tree.now c.args.index c.loop-level.level c.args.layer c.requires.own c.requires.index
    c.requires.layer c.loop-level-test.true c.loop-level.invariant.1 c.step-step.ensures c.index.ensures in
    omega (arith, w.wide)

pub loop-level-preserved : goal.loop-level-preserved
loop-level-preserved g c =
    let tree = c.args.tree.now in
    let s = shape (tree_batch tree) in
    let w = group_of c.args.tree.now c.args.index c.loop-level.level c.args.layer c.requires.own c.requires.index
    c.requires.layer c.loop-level-test.true c.loop-level.invariant.1 c.step-step.ensures c.index.ensures in
    let count = layers_count (λ nodes. length nodes.items) tree.layers.items s tree.layer_lengths in (
      λ d. group_next d (λ nodes. nodes.items) tree.layers.items s c.args.index c.loop-level.level c.step-step.result
          c.loop-level.node c.index.result.now c.index.result.now.items c.loop-level.siblings.items
          c.append_siblings.new.digests.items w (omega arith) c.index.ensures refl (c.loop-level.invariant.0 d)
          (rw (c.position_of-position.ensures, c.deref.ensures.value) at c.in_ok-append_siblings.ensures),
      c.parent_of-node.ensures ∙ node_next s c.args.index c.loop-level.level c.step-step.result c.loop-level.node
          (length c.index.result.now.items) w,
    )

pub returns-clause-siblings : goal.returns-clause-siblings
returns-clause-siblings g c = λ d.
    let s = shape (tree_batch c.args.tree.now) in
    let here : c.loop-level.level ≡ c.args.layer = omega arith in
    c.loop-level.invariant.0 d
    ∙ ap (λ (l : ℕ). joined (level_siblings (node_in d (layers_of c.args.tree.now)) s c.args.index) l) here
