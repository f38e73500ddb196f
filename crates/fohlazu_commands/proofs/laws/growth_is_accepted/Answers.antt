use Rattle.fohlazu_commands.proofs.GrowthLaws.{growth_is_accepted}
use Rattle.fohlazu_commands.proofs.laws.growth_is_accepted.Goals as goal

pub returns : goal.returns
returns c = growth_is_accepted
