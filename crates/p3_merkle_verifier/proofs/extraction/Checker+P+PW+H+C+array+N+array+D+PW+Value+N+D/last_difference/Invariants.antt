use Rattle.p3_merkle_core.specs.Extraction.{input_eq}
use Rattle.p3_merkle_verifier.specs.Inner.Checks.{functions_of, opening_in, shape_in}
use Rattle.p3_merkle_verifier.proofs.WalkFacts.{StandTogether}
use Rattle.p3_merkle_verifier.proofs.extraction.Checker+P+PW+H+C+array+N+array+D+PW+Value+N+D.last_difference.Given as goal

-- both checks stand at the level, and the last difference below it is found
abbrev pub invariant-loop-level : goal.invariant-loop-level
invariant-loop-level g l =
    StandTogether (input_eq g.P.Value.PartialEq.eq g.PW.Value.PartialEq.eq)
    (functions_of l.self) (shape_in l.self)
    (opening_in l.first) (opening_in l.second) l.level l.first_state l.second_state l.last
