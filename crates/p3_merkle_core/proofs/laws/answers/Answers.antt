-- Each clause is a lemma on what a verifier answers, for one index or for several.
use Rattle.p3_merkle_core.proofs.Pruned.Answered.{restorable}
use Rattle.p3_merkle_core.proofs.Pruned.Unrefused.{unrefused}
use Rattle.p3_merkle_core.proofs.Checks.Verdicts.{accepted_from, accepted_answer, pruned_accepted, pruned_capped}
use Rattle.p3_merkle_core.proofs.Pruned.HonestAnswered.{answered_alike}
use Rattle.p3_merkle_core.proofs.Covered.Equivalence.{equivalent}
use Rattle.p3_merkle_core.proofs.laws.answers.Goals as goal

pub returns-clause-single : goal.returns-clause-single
returns-clause-single g x = λ digest_eq c cap o dec. (
  accepted_from digest_eq c.functions c.shape c.layer cap o dec,
  accepted_answer digest_eq c.functions c.shape c.layer cap o dec,
)

pub returns-clause-pruned : goal.returns-clause-pruned
returns-clause-pruned g x = λ row_eq s t p dec. (restorable row_eq s t p dec, unrefused row_eq s t p dec)

pub returns-clause-under_cap : goal.returns-clause-under_cap
returns-clause-under_cap g x = λ row_eq digest_eq c. pruned_capped row_eq digest_eq c.functions c.shape c.layer

pub returns-clause-each_path : goal.returns-clause-each_path
returns-clause-each_path g x = λ row_eq digest_eq c. pruned_accepted row_eq digest_eq c.functions c.shape c.layer

pub returns-clause-restored : goal.returns-clause-restored
returns-clause-restored g x = λ c cap p w r. equivalent c.functions c.shape c.layer cap p w r.lawful r.below r.rows_fit
    r.agreed

pub returns-clause-answered : goal.returns-clause-answered
returns-clause-answered g x = λ row_eq digest_eq c. answered_alike row_eq digest_eq c.functions c.shape c.layer
