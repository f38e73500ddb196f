use Rattle.std.proofs.Common.{◌∙◌, ap, arith, sym}
use Rattle.sha2.specs.Sha256.{sha256}
use Rattle.tlog_tree.specs.Inner.Layers.{joined}
use Rattle.tlog_tree.proofs.Whole.{root_is_joined}
use Rattle.fohlazu_c.proofs.FrontierFacts.{few_ones}
use Rattle.fohlazu_c.proofs.growing.fohlazu_log_root.Goals as goal

pub shared_ref_as_front-root_of_nodes : goal.shared_ref_as_front-root_of_nodes
shared_ref_as_front-root_of_nodes c =
    few_ones c.args.frontier.now.size (omega (arith, c.if-size-gt-SIZE_LIMIT.false))

pub returns-clause-root : goal.returns-clause-root
returns-clause-root c = λ leaves is done.
    c.root_of_nodes.ensures ∙ ap (joined sha256) is.nodes ∙ sym (root_is_joined sha256 leaves)
