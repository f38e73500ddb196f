-- The refusal is that of the form, else of the cap.
use Rattle.p3_merkle_verifier.specs.Inner.Checks.{functions_of}
use Rattle.p3_merkle_verifier.proofs.RefusalFacts.{cap_decides}
use Rattle.p3_merkle_verifier.proofs.pruned_check.Checker+P+PW+H+C+array+N+array+D+PW+Value+N+D.check_pruned_opening.Goals as goal

pub returns-clause-answer : goal.returns-clause-answer
returns-clause-answer g c =
    let made = c.in_ok-restorable in
    cap_decides g.P.Value.PartialEq.eq g.PW.Value.PartialEq.eq (functions_of c.args.self.now) c.args.roots.now
    made.restorable c.check_roots.result made.ensures.schedule made.ensures.layer made.ensures.opening
    made.ensures.answer
    c.check_roots.ensures
