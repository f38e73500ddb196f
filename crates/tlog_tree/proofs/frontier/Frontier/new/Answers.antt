use Rattle.std.proofs.Common.{refl, sym, ◌∙◌}
use Rattle.sha2.specs.Sha256.{sha256}
use Rattle.tlog_tree.proofs.Whole.{whole_none}
use Rattle.tlog_tree.proofs.frontier.Frontier.new.Goals as goal

pub returns : goal.returns
returns c = record { size = refl; nodes = c.new.ensures.items ∙ sym (whole_none sha256) }
