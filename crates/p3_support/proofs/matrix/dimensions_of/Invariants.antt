use Rattle.std.proofs.Common.{◌≡◌, take}
use Rattle.p3_support.specs.Batches.{dimensions_in}
use Rattle.p3_support.proofs.matrix.dimensions_of.Given as goal

abbrev pub invariant-loop-matrix : goal.invariant-loop-matrix
invariant-loop-matrix g l = l.dimensions.items
    ≡ dimensions_in g.M.Matrix.height_of g.M.Matrix.width_of (take l.matrix-index l.matrices)
