-- What honest proofs lead to, by the lemmas on paths and subproofs.
use Rattle.std.proofs.Common.{refl, arith, []}
use Rattle.tlog.specs.Rfc9162.{leaf_hash}
use Rattle.tlog.proofs.Honest.{honest_grown, included, root_of_none}
use Rattle.tlog.proofs.laws.honest_proofs.Goals as goal

pub returns-clause-included : goal.returns-clause-included
returns-clause-included c = λ hash D m within small.
    record { within = within; ends = included hash (leaf_hash hash) D m [] within small }

pub returns-clause-consistent : goal.returns-clause-consistent
returns-clause-consistent c = record {
  grown = honest_grown;
  from_nothing = λ hash D. record {
    ordered = omega arith;
    from_nothing = λ z. (refl, root_of_none hash (leaf_hash hash) [] refl, root_of_none hash (leaf_hash hash) D);
    unchanged = λ p same. absurd (omega arith);
    grown = λ p l. absurd (omega arith);
  };
}
