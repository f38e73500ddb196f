use Rattle.tlog_multiproof.proofs.EntriesFacts.{unrefused}
use Rattle.tlog_multiproof.proofs.laws.unrefused_is_accepted.Goals as goal

pub returns : goal.returns
returns c = unrefused
