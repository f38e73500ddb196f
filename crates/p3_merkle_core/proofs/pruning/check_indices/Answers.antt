-- The highest index is refused, or no index is.
use Rattle.std.proofs.Common.{arith}
use Rattle.std.proofs.lemmas.List.{drop_all, get_or_default}
use Rattle.p3_merkle_core.proofs.Shapes.LeastFacts.{le_tallest}
use Rattle.p3_merkle_core.proofs.pruning.check_indices.Goals as goal

pub returns-then-highest-max_height-clause-below : goal.returns-then-highest-max_height-clause-below
returns-then-highest-max_height-clause-below c k d h =
    let all = rw (drop_all c.loop-index.index-index c.args.indices.now (omega arith)) at c.loop-index.invariant in
    omega (arith, all, get_or_default c.args.indices.now k d 0 h, le_tallest c.args.indices.now k)
