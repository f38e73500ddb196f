-- Where no width is too large, all have room for the salts; else the first that is too large is refused.
use Rattle.std.proofs.Common.{arith}
use Rattle.p3_merkle_tree.proofs.SaltFacts.{first_wide, widening}
use Rattle.p3_merkle_tree.proofs.salts.check_widening.Goals as goal

pub returns-then-width-salt_elems-clause-answer : goal.returns-then-width-salt_elems-clause-answer
returns-then-width-salt_elems-clause-answer c =
    first_wide c.args.salt_elems c.args.dimensions.now c.loop-matrix.matrix (record { width = 0; height = 0 })
    (omega arith) c.loop-matrix.invariant (omega arith)

pub returns-clause-answer : goal.returns-clause-answer
returns-clause-answer c = (widening c.args.salt_elems c.args.dimensions.now).1
    (λ k d inside. c.loop-matrix.invariant k (omega arith) d)
