-- The distinct indices so far are those of the queries so far, each of which has its slot among them (`slotted`).
use Rattle.std.proofs.Common.{◌≡◌, ◌∙◌, arith, ap, get_or, inl, inr, length}
use Rattle.std.specs.declared.vec.Vec.{Vec}
use Rattle.p3_merkle_core.proofs.Pruned.SortedFacts.{slots_all, slotted_next}
use Rattle.p3_merkle_core.proofs.pruning.distinct_slots.Goals.{then-position-eq0, else-position-eq0+else-previous-index}
use Rattle.p3_merkle_core.proofs.pruning.distinct_slots.Goals.{then-position-eq0-via-then-position-eq0}
use Rattle.p3_merkle_core.proofs.pruning.distinct_slots.Goals.{then-position-eq0-via-else-position-eq0+then-previous-index}
use Rattle.p3_merkle_core.proofs.pruning.distinct_slots.Goals as goal

pub loop-position-preserved : goal.loop-position-preserved
loop-position-preserved c =
    let sorted = c.args.sorted.now in
    let old = c.loop-position.distinct.items in
    let i = (get_or sorted c.loop-position.position (0, 0)).0 in
    let so_far = c.loop-position.invariant in
    let next = slotted_next sorted c.args.indices.now c.requires c.loop-position.position c.loop-position.previous old
    c.if-position-eq0.distinct.items c.loop-position.slots.items c.loop-position-test.true so_far.slotted in
    let long : length c.if-position-eq0.distinct.items ≡ c.len.result = omega arith in
    elim c.if-position-eq0.branch [
      | then-position-eq0 w ↦
          let slotted = next (inl (
            ap (λ (v : Vec _ _). v.items) w.distinct-is ∙ w.push_reserved.ensures.items,
            elim w.then-position-eq0.branch [
              | then-position-eq0-via-then-position-eq0 v ↦ λ p e. absurd (omega arith)
              | then-position-eq0-via-else-position-eq0+then-previous-index v ↦ λ p e. v.if-previous-index.true e
            ],
          )) in
          record {
            slotted = rw long at slotted;
            capacity = rw w.distinct-is (
              omega (arith, w.push_reserved.ensures.len, so_far.capacity.0),
              w.push_reserved.ensures.capacity ∙ so_far.capacity.1,
            );
          }
      | else-position-eq0+else-previous-index w ↦
          let slotted = next (inr (
            ap (λ (v : Vec _ _). v.items) w.distinct-is,
            omega arith,
            w.if-previous-index.false,
          )) in
          record {
            slotted = rw long at slotted;
            capacity = rw w.distinct-is (omega (arith, so_far.capacity.0), so_far.capacity.1);
          }
    ]

pub returns-clause-slots : goal.returns-clause-slots
returns-clause-slots c = slots_all c.args.sorted.now c.args.indices.now c.requires c.loop-position.position
    c.loop-position.previous c.loop-position.distinct.items c.loop-position.slots.items (omega arith)
    c.loop-position.invariant.slotted
