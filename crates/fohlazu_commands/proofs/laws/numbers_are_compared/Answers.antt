use Rattle.fohlazu_commands.proofs.EntryLaws.{numbers_are_compared}
use Rattle.fohlazu_commands.proofs.laws.numbers_are_compared.Goals as goal

pub returns : goal.returns
returns c = numbers_are_compared
