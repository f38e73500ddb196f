-- The rule is the one that is handed on.
use Rattle.p3_merkle_tree.proofs.mmcs.MerkleTreeMmcs+P+PW+H+C+N+D.new.Goals as goal

pub returns-clause-rule : goal.returns-clause-rule
returns-clause-rule g c = c.new_with_rule.ensures.rule
