use Rattle.std.proofs.Common.{length}
use Rattle.tlog.proofs.honest_proofs.+inclusion_proof.Given as goal

abbrev pub decreases-inclusion_proof : goal.decreases-inclusion_proof
decreases-inclusion_proof g l = length l.entries.now
