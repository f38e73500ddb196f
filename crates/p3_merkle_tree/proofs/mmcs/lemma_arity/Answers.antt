-- An arity passes the test.
use Rattle.p3_merkle_core.proofs.Shapes.ArityFacts.{is_arity_from}
use Rattle.p3_merkle_tree.proofs.mmcs.lemma_arity.Goals as goal

pub returns : goal.returns
returns g c = is_arity_from g.row.N c.requires
