use Rattle.tlog_text.proofs.ProofLaws.{consistency_proofs}
use Rattle.tlog_text.proofs.laws.consistency_proofs_are_read_exactly.Goals as goal

pub returns : goal.returns
returns c = consistency_proofs
