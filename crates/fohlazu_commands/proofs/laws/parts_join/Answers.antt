use Rattle.fohlazu_commands.proofs.SealLaws.{parts_join}
use Rattle.fohlazu_commands.proofs.laws.parts_join.Goals as goal

pub returns : goal.returns
returns c = parts_join
