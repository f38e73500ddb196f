use Rattle.fohlazu_commands.proofs.ProveFacts.{numbers_inside}
use Rattle.fohlazu_commands.proofs.prove.checkpoint_with.Goals as goal

pub returns-clause-numbers : goal.returns-clause-numbers
returns-clause-numbers c =
    numbers_inside c.in_ok-checkpoint.checkpoint.size c.args.numbers.now c.in_ok-check_numbers.ensures
