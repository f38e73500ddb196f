use Rattle.std.proofs.Common.{length}
use Rattle.fohlazu_c.proofs.growing.+root_of_nodes.Given as goal

abbrev pub decreases-root_of_nodes : goal.decreases-root_of_nodes
decreases-root_of_nodes l = length l.nodes.now
