use Rattle.tlog.proofs.Lifts.{refused_end}
use Rattle.tlog.proofs.composition.check_right.Goals as goal

pub returns-in_default-clause-same_root : goal.returns-in_default-clause-same_root
returns-in_default-clause-same_root g c = λ first right is.
    refused_end _ _ first right c.in_default.ensures.refused is
