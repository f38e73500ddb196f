use Rattle.fohlazu_commands.proofs.SealLaws.{seals_read}
use Rattle.fohlazu_commands.proofs.laws.seals_are_read_again.Goals as goal

pub returns : goal.returns
returns c = seals_read
