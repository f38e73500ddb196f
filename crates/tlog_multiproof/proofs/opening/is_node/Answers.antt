use Rattle.tlog_multiproof.proofs.PaddingFacts.{node_test}
use Rattle.tlog_multiproof.proofs.opening.is_node.Goals as goal

pub returns : goal.returns
returns c = node_test c.args.size c.args.node.layer c.args.node.slot c.requires.some
