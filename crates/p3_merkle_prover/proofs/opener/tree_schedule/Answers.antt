-- The steps that the tree keeps are its own.
use Rattle.p3_merkle_prover.proofs.opener.tree_schedule.Goals as goal

pub returns : goal.returns
returns g c = rw (c.schedule.ensures.arity, c.schedule.ensures.dimensions) c.args.tree.now.own_shape
