use Rattle.std.proofs.Common.{ap, sym, ◌∙◌}
use Rattle.sha2.specs.Sha256.{sha256}
use Rattle.tlog_tree.specs.Inner.Layers.{joined}
use Rattle.tlog_tree.proofs.Whole.{root_is_joined}
use Rattle.tlog_tree.proofs.frontier.Frontier.root.Goals as goal

pub returns : goal.returns
returns c = λ leaves is.
    c.root_of_nodes.ensures ∙ ap (joined sha256) (c.deref.ensures.value ∙ is.nodes)
    ∙ sym (root_is_joined sha256 leaves)
