-- Each return is one case of the refusal, and the verdict follows from it.
use Rattle.std.proofs.Common.{rules, Ok, Err}
use Rattle.tlog.specs.Verdicts.{consistency_refusal}
use Rattle.tlog.specs.declared.error.ProofError.TheVariants.{OldRootMismatch, RootMismatch}
use Rattle.tlog.proofs.Accepted.{consistency_accepted}
use Rattle.tlog.proofs.consistency.verify.Goals as goal

pub returns-in_err-old-clause-refused : goal.returns-in_err-old-clause-refused
unfolding consistency_refusal
returns-in_err-old-clause-refused g c = search rules

pub returns-in_err-old-clause-accepted : goal.returns-in_err-old-clause-accepted
returns-in_err-old-clause-accepted g c =
    consistency_accepted _ _ _ _ _ _ c.from_residual.result (returns-in_err-old-clause-refused g c)

pub returns-then-ne-clause-refused : goal.returns-then-ne-clause-refused
unfolding consistency_refusal
returns-then-ne-clause-refused g c = search rules

pub returns-then-ne-clause-accepted : goal.returns-then-ne-clause-accepted
returns-then-ne-clause-accepted g c =
    consistency_accepted _ _ _ _ _ _ (Err OldRootMismatch) (returns-then-ne-clause-refused g c)

pub returns-then-ne-2-clause-refused : goal.returns-then-ne-2-clause-refused
unfolding consistency_refusal
returns-then-ne-2-clause-refused g c = search rules

pub returns-then-ne-2-clause-accepted : goal.returns-then-ne-2-clause-accepted
returns-then-ne-2-clause-accepted g c =
    consistency_accepted _ _ _ _ _ _ (Err RootMismatch) (returns-then-ne-2-clause-refused g c)

pub returns-clause-refused : goal.returns-clause-refused
unfolding consistency_refusal
returns-clause-refused g c = search rules

pub returns-clause-accepted : goal.returns-clause-accepted
returns-clause-accepted g c =
    consistency_accepted _ _ _ _ _ _ (Ok tt) (returns-clause-refused g c)
