use Rattle.fohlazu_commands.proofs.EntryLaws.{proofs_are_proved}
use Rattle.fohlazu_commands.proofs.laws.proofs_are_proved.Goals as goal

pub returns : goal.returns
returns c = proofs_are_proved
