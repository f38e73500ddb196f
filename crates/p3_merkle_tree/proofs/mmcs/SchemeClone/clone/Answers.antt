use Rattle.std.proofs.Common.{rules}
use Rattle.p3_merkle_tree.proofs.mmcs.SchemeClone.clone.Goals as goal

pub returns : goal.returns
returns g c = search rules
