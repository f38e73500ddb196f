-- Each turn takes in one more height.
use Rattle.std.proofs.Common.{◌≡◌, ◌≤◌, max, min, drop}
use Rattle.p3_merkle_core.specs.Inner.Shapes.{least_height, shortest}
use Rattle.p3_support.specs.Batches.{heights_of, greatest}
use Rattle.p3_merkle_core.proofs.geometry.extremes_of.Given as goal

-- the greatest so far and the rest's is the greatest of all, and so with the least
abbrev pub invariant-loop-matrix : goal.invariant-loop-matrix
invariant-loop-matrix l =
    let m = greatest (heights_of l.dimensions) in
    let rest = heights_of (drop l.matrix-index l.others) in
    record {
      greatest_is : max l.max_height (greatest rest) ≡ m;
      low : l.min_height ≤ m;
      least_is : min l.min_height (least_height m rest) ≡ shortest (heights_of l.dimensions);
    }
