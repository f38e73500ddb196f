use Rattle.tlog_tree.proofs.Parts.{root_is_of_parts}
use Rattle.tlog_tree.proofs.laws.root_of_parts.Goals as goal

pub returns : goal.returns
returns c = root_is_of_parts
