use Rattle.tlog.proofs.Accepted.{nothing}
use Rattle.tlog.proofs.hash.Sha256LogHash32.empty_root.Goals as goal

pub returns : goal.returns
returns c = nothing
