use Rattle.p3_merkle_verifier.specs.Inner.Checks.{functions_of, opening_in, shape_in, AgreeBelow, IsPathState}
use Rattle.p3_merkle_verifier.proofs.extraction.Checker+P+PW+H+C+array+N+array+D+PW+Value+N+D.agree.Given as goal

-- both checks stand at the level, and agree below it
abbrev pub invariant-loop-level : goal.invariant-loop-level
invariant-loop-level g l =
    let f = functions_of l.self in
    let s = shape_in l.self in
    record {
      first_state : IsPathState f s (opening_in l.first) l.level l.first_state;
      second_state : IsPathState f s (opening_in l.second) l.level l.second_state;
      agree : AgreeBelow f s (opening_in l.first) (opening_in l.second) l.level;
    }
