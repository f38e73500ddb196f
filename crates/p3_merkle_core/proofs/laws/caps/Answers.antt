use Rattle.p3_merkle_core.proofs.Shapes.CapFacts.{none_out, rules_agree}
use Rattle.p3_merkle_core.proofs.laws.caps.Goals as goal

pub returns-clause-lowered : goal.returns-clause-lowered
returns-clause-lowered c = none_out

pub returns-clause-agree : goal.returns-clause-agree
returns-clause-agree c = rules_agree
