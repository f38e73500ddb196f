use Rattle.p3_merkle_verifier.specs.Inner.Checks.{functions_of, opening_in, shape_in, IsPathState}
use Rattle.p3_merkle_verifier.proofs.path.Checker+P+PW+H+C+array+N+array+D+PW+Value+N+D.climb_over.Given as goal

abbrev pub invariant-loop-level : goal.invariant-loop-level
invariant-loop-level g l =
    IsPathState (functions_of l.self) (shape_in l.self)
    (opening_in l.opening) l.level l.state
