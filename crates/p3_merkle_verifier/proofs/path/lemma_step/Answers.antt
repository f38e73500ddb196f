-- The siblings up to the cap are enough for the step of a level below it.
use Rattle.p3_merkle_verifier.proofs.LevelFacts.{can_step}
use Rattle.p3_merkle_verifier.proofs.path.lemma_step.Goals as goal

pub returns : goal.returns
returns g c = can_step c.args.level c.requires.reach c.requires.level c.requires.step c.requires.used
