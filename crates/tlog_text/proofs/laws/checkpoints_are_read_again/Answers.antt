use Rattle.tlog_text.proofs.NoteLaws.{read_again}
use Rattle.tlog_text.proofs.laws.checkpoints_are_read_again.Goals as goal

pub returns : goal.returns
returns c = read_again
