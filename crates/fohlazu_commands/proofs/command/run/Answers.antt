-- The outcome is an error, or its text is written.
use Rattle.std.proofs.lemmas.Result.{err_from_is_err_and}
use Rattle.fohlazu_commands.proofs.RunFacts.{ends_failed}
use Rattle.fohlazu_commands.proofs.command.run.Goals as goal

pub returns-in_err-text-clause-outcome : goal.returns-in_err-text-clause-outcome
returns-in_err-text-clause-outcome g c =
    let left = err_from_is_err_and c.from_residual.result c.from_residual.ensures.1 in
    let output = g.W.Write.contents c.args.output.now in
    let has = c.in_err-text.ensures in
    rw (left.1, left.2) (has.0, has.1, ends_failed (Unit {0}) output output has.0 _ has.2)
