-- The first opening's refusal, else the second's, else the first pair that differs.
use Rattle.p3_merkle_core.specs.Refusals.{pruned_early}
use Rattle.p3_merkle_core.proofs.Pruned.Refused.{handed}
use Rattle.p3_merkle_verifier.specs.Inner.Checks.{params_in, shape_in}
use Rattle.p3_merkle_verifier.specs.Inner.RestoredLevels.{pruned_in}
use Rattle.p3_merkle_verifier.proofs.QueryFacts.{found_in_both}
use Rattle.p3_merkle_verifier.proofs.pruned_extraction.Checker+P+PW+H+C+array+N+array+D+PW+Value+N+D.pruned_extraction.Goals as goal

pub returns-in_err-first-clause-checked : goal.returns-in_err-first-clause-checked
returns-in_err-first-clause-checked g c =
    handed c.from_residual.result c.in_err-first.field-0.0
    (pruned_early (shape_in c.args.self.now) (pruned_in c.args.first)) c.from_residual.ensures.1
    c.in_err-first.ensures.checked

pub returns-clause-found : goal.returns-clause-found
returns-clause-found g c =
    found_in_both g.P.Value.PartialEq.eq g.PW.Value.PartialEq.eq (params_in c.args.self.now)
    c.in_ok-differing_pair.field-0 c.in_ok-first.ensures.restored c.in_ok-second.ensures.restored
    c.in_ok-differing_pair.ensures
