-- The steps so far are those below the level that is reached (`so_far`).
use Rattle.std.proofs.Common.{arith, sym}
use Rattle.std.proofs.lemmas.List.FromFn.{map-range_with_len_more}
use Rattle.p3_merkle_core.specs.Geometry.{shape_of, step}
use Rattle.p3_merkle_core.proofs.schedule.Schedule.schedule_below.Goals as goal

pub loop-level-preserved : goal.loop-level-preserved
loop-level-preserved c =
    let s = shape_of c.args.self.now.arity c.args.self.now.dimensions.now in
    let l = c.loop-level.level in
    record {
      so_far = rw (c.push_reserved.ensures.items, c.loop-level.invariant.so_far, c.step.ensures)
          (sym (map-range_with_len_more (step s) 0 l l (omega arith)));
      count = omega (arith, c.push_reserved.ensures.len, c.loop-level.invariant.count);
      capacity = omega (arith, c.push_reserved.ensures.capacity, c.loop-level.invariant.capacity);
    }
