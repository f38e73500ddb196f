use Rattle.tlog_multiproof.proofs.Smallest.{fewest_nodes, nodes_suffice}
use Rattle.tlog_multiproof.proofs.laws.smallest_proof.Goals as goal

pub returns : goal.returns
returns c = record {
  suffices = nodes_suffice;
  fewest = λ size indices given padding below absent bare enough.
      fewest_nodes size indices below given padding absent bare enough;
}
