use Rattle.fohlazu_commands.proofs.GrowthLaws.{growth_is_proved}
use Rattle.fohlazu_commands.proofs.laws.growth_is_proved.Goals as goal

pub returns : goal.returns
returns c = growth_is_proved
