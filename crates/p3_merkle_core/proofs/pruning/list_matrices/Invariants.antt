use Rattle.std.proofs.Common.{◌≡◌, ◌-◌, ◌++◌, filter, length, get_or, eqb}
use Rattle.std.specs.List.{range_with_len}
use Rattle.p3_support.specs.Batches.{heights_of}
use Rattle.p3_merkle_core.specs.Geometry.{exponent}
use Rattle.p3_merkle_core.specs.Inner.Agreement.{matrices_with}
use Rattle.p3_merkle_core.proofs.pruning.list_matrices.Given as goal

-- the matrices so far, and those of the rest, are all
abbrev pub invariant-loop-matrix : goal.invariant-loop-matrix
invariant-loop-matrix l =
    let hs = heights_of l.dimensions in
    l.matrices.items ++ filter (λ m. eqb (exponent (get_or hs m 0)) l.exponent)
    (range_with_len l.matrix (length l.dimensions - l.matrix)) ≡ matrices_with hs l.exponent
