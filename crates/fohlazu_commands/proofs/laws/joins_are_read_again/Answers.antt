use Rattle.fohlazu_commands.proofs.SealLaws.{joins_read}
use Rattle.fohlazu_commands.proofs.laws.joins_are_read_again.Goals as goal

pub returns : goal.returns
returns c = joins_read
