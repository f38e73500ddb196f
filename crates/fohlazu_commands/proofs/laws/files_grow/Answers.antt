use Rattle.fohlazu_commands.proofs.OutcomeFacts.{files_grow}
use Rattle.fohlazu_commands.proofs.laws.files_grow.Goals as goal

pub returns : goal.returns
returns c = files_grow
