-- The positions so far are those below the level that is reached (`so_far`), where the ancestor stands (`place`).
use Rattle.std.proofs.Common.{add-one, arith, sym}
use Rattle.std.proofs.lemmas.List.FromFn.{map-range_with_len_more}
use Rattle.p3_merkle_core.specs.Geometry.{shape_of, position_in_group}
use Rattle.p3_merkle_core.proofs.Shapes.StepFacts.{anc_next, anc_start}
use Rattle.p3_merkle_core.proofs.schedule.Schedule.positions_below.Goals as goal

pub loop-level-init : goal.loop-level-init
loop-level-init c =
    record {
      place = sym (anc_start (shape_of c.args.self.now.arity c.args.self.now.dimensions.now) c.args.index);
      so_far = c.in_ok-positions.ensures.items;
      count = c.in_ok-positions.ensures.len;
      capacity = c.in_ok-positions.ensures.exact;
    }

pub loop-level-preserved : goal.loop-level-preserved
loop-level-preserved c =
    let s = shape_of c.args.self.now.arity c.args.self.now.dimensions.now in
    let l = c.loop-level.level in
    let invariant = c.loop-level.invariant in
    record {
      place = rw (invariant.place, c.step-step.ensures, add-one) (sym (anc_next s l c.args.index));
      so_far = rw (c.push_reserved.ensures.items, invariant.so_far, invariant.place, c.step-step.ensures)
          (sym (map-range_with_len_more (λ k. position_in_group s k c.args.index) 0 l l (omega arith)));
      count = omega (arith, c.push_reserved.ensures.len, invariant.count);
      capacity = omega (arith, c.push_reserved.ensures.capacity, invariant.capacity);
    }
