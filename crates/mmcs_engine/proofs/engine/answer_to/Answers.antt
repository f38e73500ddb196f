use Rattle.std.proofs.Common.{refl}
use Rattle.std.proofs.lemmas.Result.{err_from_is_err_and}
use Rattle.mmcs_engine.proofs.ReplyFacts.{usage_reported, usage_told}
use Rattle.mmcs_engine.proofs.engine.answer_to.Goals as goal

pub returns-in_err-parsed-clause-usage : goal.returns-in_err-parsed-clause-usage
returns-in_err-parsed-clause-usage g c =
    let left = err_from_is_err_and c.from_residual.result c.from_residual.ensures.1 in
    rw (left.1, left.2) (usage_told _ _ c.in_err-parsed.ensures.fault)

pub returns-in_err-parsed-clause-fault : goal.returns-in_err-parsed-clause-fault
returns-in_err-parsed-clause-fault g c =
    let left = err_from_is_err_and c.from_residual.result c.from_residual.ensures.1 in
    rw (left.1, left.2) (usage_reported _ _ _ c.in_err-parsed.ensures.fault)

pub returns-in_err-parsed-clause-unread : goal.returns-in_err-parsed-clause-unread
returns-in_err-parsed-clause-unread g c = λ is. refl
