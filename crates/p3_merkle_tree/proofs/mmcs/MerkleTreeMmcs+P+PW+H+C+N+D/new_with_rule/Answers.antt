-- The test of the arity says that it is one.
use Rattle.std.proofs.Common.{rules}
use Rattle.p3_merkle_core.proofs.Shapes.ArityFacts.{arity_from}
use Rattle.p3_merkle_tree.proofs.mmcs.MerkleTreeMmcs+P+PW+H+C+N+D.new_with_rule.Goals as goal

pub invariant_of-result-clause-arity : goal.invariant_of-result-clause-arity
invariant_of-result-clause-arity g c = arity_from g.row.N c.requires.arity

pub returns-clause-cap_height : goal.returns-clause-cap_height
returns-clause-cap_height g c = search rules
