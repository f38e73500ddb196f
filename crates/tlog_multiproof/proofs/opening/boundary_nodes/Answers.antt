-- The nodes so far are the boundary below the layer that is reached (`so_far`), of which the covered slots are known;
-- above the last layer there is none.
use Rattle.std.proofs.Common.{◌≡◌, ℕ, ◌<◌, ◌≤◌, ◌-◌, ◌/◌, ◌^◌, ◌∙◌, ap, arith, filter, map, not, sym}
use Rattle.p3_support.specs.Lists.{is_among}
use Rattle.p3_merkle_core.specs.Geometry.{levels}
use Rattle.p3_merkle_core.specs.Pruning.{boundary}
use Rattle.p3_merkle_core.proofs.Pruned.SlotFacts.{distinct_from}
use Rattle.tlog_multiproof.specs.Inner.Siblings.{sibling}
use Rattle.tlog_multiproof.specs.Instance.{log_shape, slots_of}
use Rattle.tlog_multiproof.proofs.NodeSlots.{all_slots, slots_more}
use Rattle.tlog_multiproof.proofs.ShapeFacts.{at_root, below_root, boundary_more, covered_ascend, covered_next}
use Rattle.tlog_multiproof.proofs.ShapeFacts.{last_above, layers_small, levels_small, log_query, nodes_fit}
use Rattle.tlog_multiproof.proofs.opening.boundary_nodes.Goals as goal

pub loop-last-init : goal.loop-last-init
loop-last-init c =
    let s = log_shape c.args.size in
    let indices = c.args.indices.now in
    record {
      covered = c.in_ok-covered.ensures
          ∙ sym (distinct_from s indices (log_query c.args.size indices c.requires.within).below);
      so_far = ap slots_of c.new-nodes.ensures.items;
      low = omega arith;
      last_is = omega arith;
    }

pub overflow_add-layer : goal.overflow_add-layer
overflow_add-layer c =
    let at = c.loop-last.invariant in
    let below = below_root c.args.size c.loop-last.layer c.requires.some at.low
    (omega (arith, at.last_is, c.loop-last-test.true)) in
    omega (arith, below, levels_small c.args.size c.requires.limit)

pub push_siblings-requires-clause-ascending : goal.push_siblings-requires-clause-ascending
push_siblings-requires-clause-ascending c =
    covered_ascend (log_shape c.args.size) c.args.indices.now c.loop-last.layer c.deref.result.now
    (c.deref.ensures.value ∙ c.loop-last.invariant.covered)

pub push_siblings-requires-clause-fits : goal.push_siblings-requires-clause-fits
push_siblings-requires-clause-fits c =
    nodes_fit c.args.size c.args.indices.now c.loop-last.layer c.deref.result.now c.requires.limit c.requires.within
    (c.deref.ensures.value ∙ c.loop-last.invariant.covered)

pub loop-last-preserved : goal.loop-last-preserved
loop-last-preserved c =
    let size = c.args.size in
    let indices = c.args.indices.now in
    let l = c.loop-last.layer in
    let at = c.loop-last.invariant in
    let here = c.deref.result.now in
    let is_here = c.deref.ensures.value ∙ at.covered in
    let below = below_root size l c.requires.some at.low (omega (arith, at.last_is, c.loop-last-test.true)) in
    record {
      covered = covered_next size indices l c.loop-last.covered.items c.climb.new.covered.items c.requires.within below
          at.covered c.climb.ensures;
      so_far = boundary_more size indices l here (slots_of c.loop-last.nodes.items)
          (slots_of c.push_siblings.new.nodes.items) c.requires.within below is_here at.so_far
          (slots_more l c.loop-last.nodes.items c.push_siblings.new.nodes.items
          (filter (λ j. not (is_among here j)) (map sibling here)) c.in_ok-push_siblings.ensures);
      low = omega (arith, below);
      last_is = ap (λ (n : ℕ). n / 2) at.last_is ∙ last_above size l;
    }

top : (size l last : ℕ) → 0 < size → l ≤ levels (log_shape size) → last ≡ (size - 1) / 2 ^ l → last ≤ 0 →
    l ≡ levels (log_shape size)
top size l last some low is none = at_root size l some low (sym is ∙ omega (arith, none))

pub returns-clause-boundary : goal.returns-clause-boundary
returns-clause-boundary c =
    let at = c.loop-last.invariant in
    at.so_far ∙ ap (boundary (log_shape c.args.size) c.args.indices.now)
    (top c.args.size c.loop-last.layer c.loop-last.last c.requires.some at.low at.last_is c.loop-last-test.false)

pub returns-clause-layers : goal.returns-clause-layers
returns-clause-layers c =
    all_slots (λ slot. slot.0 < 64) c.loop-last.nodes.items
    (layers_small c.args.size c.args.indices.now (slots_of c.loop-last.nodes.items) c.requires.limit
    (returns-clause-boundary c))
