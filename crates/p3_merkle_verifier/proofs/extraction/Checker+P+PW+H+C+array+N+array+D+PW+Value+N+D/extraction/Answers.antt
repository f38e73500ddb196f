-- The first opening's refusal, else the second's, else the last difference.
use Rattle.std.proofs.Common.{inr}
use Rattle.std.proofs.lemmas.Result.{err_from_is_err_and}
use Rattle.std.specs.Prelude.{Ok}
use Rattle.std.specs.Option.{option_or}
use Rattle.p3_support.proofs.RowFacts.{widened_none}
use Rattle.p3_merkle_core.specs.Refusals.{refusal_under}
use Rattle.p3_merkle_verifier.specs.Inner.Checks.{opening_in, params_in}
use Rattle.p3_merkle_core.proofs.Pruned.Refused.{refused_not, refuses_so, unrefused_so}
use Rattle.p3_merkle_verifier.proofs.ExtractFacts.{both_taken, first_refused, second_refused}
use Rattle.p3_merkle_verifier.proofs.extraction.Checker+P+PW+H+C+array+N+array+D+PW+Value+N+D.extraction.Goals as goal

pub returns-in_err-check_opening : goal.returns-in_err-check_opening
returns-in_err-check_opening g c =
    let refusal = refusal_under g.PW.Value.PartialEq.eq (params_in c.args.self.now) c.args.roots.now in
    let none = widened_none c.args.self.now.schedule.dimensions.now in
    let p = err_from_is_err_and c.from_residual.result c.from_residual.ensures.1 in
    let some = first_refused (refusal (opening_in c.args.first)) (refusal (opening_in c.args.second))
    c.in_err-check_opening.field-0.0 (rw none at c.in_err-check_opening.ensures.answer) in
    rw (p.1, p.2) (record {
      answer = inr some;
      checked = refuses_so (option_or (refusal (opening_in c.args.first)) (refusal (opening_in c.args.second)))
          c.in_err-check_opening.field-0.0 some;
      found = tt;
      agreed = λ unrefused d. refused_not
          (option_or (refusal (opening_in c.args.first)) (refusal (opening_in c.args.second)))
          c.in_err-check_opening.field-0.0 some unrefused;
    })

pub returns-in_err-check_opening-2 : goal.returns-in_err-check_opening-2
returns-in_err-check_opening-2 g c =
    let refusal = refusal_under g.PW.Value.PartialEq.eq (params_in c.args.self.now) c.args.roots.now in
    let none = widened_none c.args.self.now.schedule.dimensions.now in
    let p = err_from_is_err_and c.from_residual-in_err-check_opening-2.result
    c.from_residual-in_err-check_opening-2.ensures.1 in
    let some = second_refused (refusal (opening_in c.args.first)) (refusal (opening_in c.args.second))
    c.in_err-check_opening-2.field-0.0 (rw none at c.in_ok-check_opening.ensures.answer)
    (rw none at c.in_err-check_opening-2.ensures.answer) in
    rw (p.1, p.2) (record {
      answer = inr some;
      checked = refuses_so (option_or (refusal (opening_in c.args.first)) (refusal (opening_in c.args.second)))
          c.in_err-check_opening-2.field-0.0 some;
      found = tt;
      agreed = λ unrefused d. refused_not
          (option_or (refusal (opening_in c.args.first)) (refusal (opening_in c.args.second)))
          c.in_err-check_opening-2.field-0.0 some unrefused;
    })

pub returns-in_err-last_difference-clause-checked : goal.returns-in_err-last_difference-clause-checked
returns-in_err-last_difference-clause-checked g c =
    let refusal = refusal_under g.PW.Value.PartialEq.eq (params_in c.args.self.now) c.args.roots.now in
    let none = widened_none c.args.self.now.schedule.dimensions.now in
    unrefused_so c.from_residual-in_err-last_difference.result
    (option_or (refusal (opening_in c.args.first)) (refusal (opening_in c.args.second)))
    (both_taken (refusal (opening_in c.args.first)) (refusal (opening_in c.args.second))
    (rw none at c.in_ok-check_opening.ensures.answer) (rw none at c.in_ok-check_opening-2.ensures.answer))

pub returns-in_err-last_difference-clause-agreed : goal.returns-in_err-last_difference-clause-agreed
returns-in_err-last_difference-clause-agreed g c =
    λ unrefused d. let ok = c.in_err-last_difference.ensures.agreed d in absurd cc

pub returns-clause-checked : goal.returns-clause-checked
returns-clause-checked g c =
    let refusal = refusal_under g.PW.Value.PartialEq.eq (params_in c.args.self.now) c.args.roots.now in
    let none = widened_none c.args.self.now.schedule.dimensions.now in
    unrefused_so (Ok c.in_ok-last_difference.field-0)
    (option_or (refusal (opening_in c.args.first)) (refusal (opening_in c.args.second)))
    (both_taken (refusal (opening_in c.args.first)) (refusal (opening_in c.args.second))
    (rw none at c.in_ok-check_opening.ensures.answer) (rw none at c.in_ok-check_opening-2.ensures.answer))

pub returns-clause-answer : goal.returns-clause-answer
returns-clause-answer g c =
    let refusal = refusal_under g.PW.Value.PartialEq.eq (params_in c.args.self.now) c.args.roots.now in
    let none = widened_none c.args.self.now.schedule.dimensions.now in
    both_taken (refusal (opening_in c.args.first)) (refusal (opening_in c.args.second))
    (rw none at c.in_ok-check_opening.ensures.answer) (rw none at c.in_ok-check_opening-2.ensures.answer)
