use Rattle.tlog_text.proofs.NoteLaws.{notes}
use Rattle.tlog_text.proofs.laws.notes_are_read_exactly.Goals as goal

pub returns : goal.returns
returns c = notes
