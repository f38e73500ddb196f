use Rattle.std.proofs.Common.{arith, ap, ◌∙◌, length}
use Rattle.std.specs.Prelude.{count_ones}
use Rattle.sha2.specs.Sha256.{sha256}
use Rattle.tlog_tree.proofs.Whole.{count_whole}
use Rattle.tlog_tree.proofs.frontier.Frontier.from_nodes.Goals as goal

pub returns-then-nodes-size-clause-honest : goal.returns-then-nodes-size-clause-honest
returns-then-nodes-size-clause-honest c = λ leaves long fits are.
    absurd (omega (arith, c.if-nodes-size.true, ap length are ∙ count_whole sha256 leaves ∙ ap count_ones long))
