-- The path has the siblings of the levels so far (`walked`), and its node in the layer that is reached is covered
-- (`covered`).
use Rattle.std.proofs.Common.{◌≡◌, ◌∙◌, ◌+◌, ◌-◌, ◌*◌, sym, arith}
use Rattle.std.proofs.lemmas.List.{get_or_default, length-set}
use Rattle.p3_merkle_core.proofs.Covered.KeptFacts.{group_at_place, link_at, path_turn}
use Rattle.p3_merkle_core.proofs.pruning.siblings_on_path.Goals as goal

pub overflow_add-first : goal.overflow_add-first
overflow_add-first g c =
    let above = c.index-layers-level.result in
    let fits = group_at_place c.args.layers.now c.loop-level.level c.place_of-place.result above
    c.loop-level.invariant.some c.loop-level-test.true c.requires.linked c.index-layers-level.is
    (rw c.deref.ensures.value at c.place_of-place.ensures.inside) in
    omega (arith, fits, above.children.ok)

pub slice_bounds-append_siblings-end : goal.slice_bounds-append_siblings-end
slice_bounds-append_siblings-end g c =
    let fits = group_at_place c.args.layers.now c.loop-level.level c.place_of-place.result c.index-layers-level.result
    c.loop-level.invariant.some c.loop-level-test.true c.requires.linked c.index-layers-level.is
    (rw c.deref.ensures.value at c.place_of-place.ensures.inside) in
    omega (arith, fits)

pub loop-level-preserved : goal.loop-level-preserved
loop-level-preserved g c =
    let layers = c.args.layers.now in
    let level = c.loop-level.level in
    let above = c.index-layers-level.result in
    let so_far = c.loop-level.invariant in
    let parent = c.parent_of-parent.ensures in
    let place = rw (c.deref.ensures.value, parent) at c.place_of-place.ensures.place in
    let link = link_at layers level above so_far.some c.loop-level-test.true c.requires.linked
    c.index-layers-level.is in
    let here : level + 1 - 1 ≡ level = omega arith in
    let first = above.step * c.place_of-place.result in
    let count : first + above.step - first ≡ above.step = omega arith in
    let own = c.position_of-own.ensures in
    record {
      some = omega arith;
      places = length-set c.loop-level.places level c.place_of-place.result ∙ so_far.places;
      walked = rw (here, parent) (path_turn layers level c.place_of-place.result c.loop-level.node c.args.index above
          c.loop-level.path.items c.append_siblings.new.digests.items so_far.some c.loop-level-test.true
          c.requires.linked c.index-layers-level.is so_far.walked (so_far.covered above) place
          (rw (count, c.deref-in-loop-level.ensures.value, own) at c.in_ok-append_siblings.ensures));
      covered = λ x.
          rw (
            here,
            get_or_default layers level x above c.loop-level-test.true ∙ sym c.index-layers-level.is,
            parent,
          ) (link.parents c.loop-level.node (so_far.covered above));
    }
