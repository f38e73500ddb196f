use Rattle.tlog.proofs.Accepted.{nothing}
use Rattle.tlog.proofs.laws.empty_root.Goals as goal

pub returns : goal.returns
returns c = nothing
