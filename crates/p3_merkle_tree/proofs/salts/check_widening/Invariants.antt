use Rattle.std.proofs.Common.{ℕ, ◌+◌, ◌<◌, ◌^◌, get_or}
use Rattle.p3_support.specs.declared.matrix.Dimensions.{Dimensions}
use Rattle.p3_merkle_tree.proofs.salts.check_widening.Given as goal

-- the matrices so far have room for the salts
abbrev pub invariant-loop-matrix : goal.invariant-loop-matrix
invariant-loop-matrix l =
    (k : ℕ) → k < l.matrix → (d : Dimensions) → (get_or l.dimensions k d).width + l.salt_elems < 2 ^ 64
