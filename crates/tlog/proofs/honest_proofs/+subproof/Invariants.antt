use Rattle.std.proofs.Common.{length}
use Rattle.tlog.proofs.honest_proofs.+subproof.Given as goal

abbrev pub decreases-subproof : goal.decreases-subproof
decreases-subproof g l = length l.entries.now
