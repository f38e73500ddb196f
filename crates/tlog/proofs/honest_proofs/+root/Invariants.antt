use Rattle.std.proofs.Common.{length}
use Rattle.tlog.proofs.honest_proofs.+root.Given as goal

abbrev pub decreases-root : goal.decreases-root
decreases-root g l = length l.entries.now
