use Rattle.std.proofs.Common.{◌≡◌, map, take}
use Rattle.p3_merkle_prover.proofs.opener.matrix_refs.Given as goal

-- the references so far are to the first matrices
abbrev pub invariant-loop-matrix : goal.invariant-loop-matrix
invariant-loop-matrix g l = map (λ m. m.now) l.matrices.items ≡ take l.matrix-index l.matrix-items
