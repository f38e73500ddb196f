use Rattle.tlog_text.proofs.ProofLaws.{entries_proofs}
use Rattle.tlog_text.proofs.laws.entries_proofs_are_read_exactly.Goals as goal

pub returns : goal.returns
returns c = entries_proofs
