use Rattle.tlog.proofs.Lifts.{refused_end}
use Rattle.tlog.proofs.composition.lift_beside.Goals as goal

pub returns-in_default-clause-lifted : goal.returns-in_default-clause-lifted
returns-in_default-clause-lifted g c = λ first left is.
    refused_end _ _ first left c.in_default.ensures.refused is
