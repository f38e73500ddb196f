use Rattle.mmcs_engine.proofs.ArgFacts.{same_command}
use Rattle.mmcs_engine.proofs.Outcomes.{one_outcome, same_matrices}
use Rattle.mmcs_engine.proofs.laws.meanings_are_unique.Goals as goal

pub returns-clause-command : goal.returns-clause-command
returns-clause-command c = same_command

pub returns-clause-outcome : goal.returns-clause-outcome
returns-clause-outcome c = one_outcome

pub returns-clause-matrices : goal.returns-clause-matrices
returns-clause-matrices c = same_matrices
