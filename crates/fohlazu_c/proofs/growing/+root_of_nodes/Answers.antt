use Rattle.std.proofs.Common.{sym, ap, ◌∙◌, arith}
use Rattle.std.proofs.lemmas.List.{nil_from_length}
use Rattle.sha2.specs.Sha256.{sha256}
use Rattle.tlog.proofs.Accepted.{nothing}
use Rattle.tlog_tree.specs.Inner.Layers.{joined}
use Rattle.fohlazu_c.proofs.growing.+root_of_nodes.Goals as goal

pub returns-in-empty : goal.returns-in-empty
returns-in-empty t c =
    nothing ∙ sym (ap (joined sha256) (nil_from_length c.args.nodes.now (omega (arith, c.in-empty.len_below))))
