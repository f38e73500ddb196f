use Rattle.fohlazu_commands.proofs.EntryLaws.{proofs_are_accepted}
use Rattle.fohlazu_commands.proofs.laws.proofs_are_accepted.Goals as goal

pub returns : goal.returns
returns c = proofs_are_accepted
