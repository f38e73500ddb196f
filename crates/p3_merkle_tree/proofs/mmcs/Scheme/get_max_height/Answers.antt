-- It is the tree's own greatest height.
use Rattle.p3_merkle_tree.proofs.mmcs.Scheme.get_max_height.Goals as goal

pub returns : goal.returns
returns g c = c.max_height.ensures
