-- What the form does not refuse can be checked up to the cap, and the check stands at the level that is reached.
use Rattle.std.proofs.Common.{length, refl}
use Rattle.std.proofs.lemmas.Result.{err_from_is_err_and}
use Rattle.p3_merkle_verifier.specs.Inner.Checks.{opening_in}
use Rattle.p3_merkle_verifier.proofs.FormFacts.{answered_by_entry, form_widened}
use Rattle.p3_merkle_verifier.proofs.path.Checker+P+PW+H+C+array+N+array+D+PW+Value+N+D.check_opening.Goals as goal

pub returns-then-is_entry-clause-answer : goal.returns-then-is_entry-clause-answer
returns-then-is_entry-clause-answer g c =
    answered_by_entry g.PW.Value.PartialEq.eq c.args.roots.now c.args.salt_elems c.in_ok-check_form.ensures.answer
    c.climb-reached.ensures c.is_entry.ensures c.if-is_entry.true

pub returns-else-is_entry-clause-answer : goal.returns-else-is_entry-clause-answer
returns-else-is_entry-clause-answer g c =
    answered_by_entry g.PW.Value.PartialEq.eq c.args.roots.now c.args.salt_elems c.in_ok-check_form.ensures.answer
    c.climb-reached.ensures c.is_entry.ensures c.if-is_entry.false

pub returns-in_err-check_form-clause-answer : goal.returns-in_err-check_form-clause-answer
returns-in_err-check_form-clause-answer g c =
    let checker = c.args.self.now in
    let o = opening_in c.args.opening in
    let left = err_from_is_err_and c.from_residual.result c.from_residual.ensures.1 in
    rw (
      left.1,
      left.2,
      ← form_widened c.args.salt_elems checker.schedule.arity checker.schedule.dimensions.now checker.cap_layer o.index
          o.rows (length o.siblings),
      c.in_err-check_form.ensures.answer,
    )
    refl
