use Rattle.tlog_text.proofs.NoteLaws.{parts}
use Rattle.tlog_text.proofs.laws.parts_are_read_exactly.Goals as goal

pub returns : goal.returns
returns c = parts
