-- A checkpoint that is read has a size that a log may have.
use Rattle.std.proofs.Common.{◌≤◌, rules, List, ℕ, IfOk, Ok, Err, Result}
use Rattle.tlog.specs.Verdicts.{size_limit}
use Rattle.tlog_text.specs.Reading.{checkpoint_in}
use Rattle.tlog_text.specs.Texts.{checkpoint_fields}
use Rattle.tlog_text.specs.declared.checkpoint.Checkpoint.{Checkpoint}
use Rattle.fohlazu_commands.specs.{Outcomes.Gives, Outcomes.said_by}
use Rattle.fohlazu_commands.specs.declared.error.Error.{Error}
use Rattle.fohlazu_commands.specs.declared.error.Source.{Source}
use Rattle.fohlazu_commands.proofs.ProveFacts.{limit_of}
use Rattle.fohlazu_commands.proofs.inputs.parse_checkpoint.Goals as goal

small : (source : Source) (text : List ℕ) (r : Result Checkpoint Error) →
    Gives checkpoint_fields r (said_by source (checkpoint_in text)) → IfOk r (λ c. c.size ≤ size_limit)
small source text (Ok c) said = limit_of source text (checkpoint_fields c) said
small source text (Err error) said = tt

pub returns-clause-limit : goal.returns-clause-limit
returns-clause-limit c = small c.args.source c.args.text.now c.map_err.result (search rules)
