-- Two accepted proofs of consistency are two of inclusion of the node where both begin, and are fixed as those are.
use Rattle.std.proofs.Common.{refl, arith, inl}
use Rattle.tlog.proofs.Consistencies.{fixed_from, no_digests}
use Rattle.tlog.proofs.TwoWalks.{accepted_by, same_none}
use Rattle.tlog.proofs.binding.consistency_collision.Goals as goal

pub returns-then-old_size-eq0-clause-none : goal.returns-then-old_size-eq0-clause-none
returns-then-old_size-eq0-clause-none g c = (λ none. no_digests (inl c.if-old_size-eq0.true), λ fixed. refl)

pub returns-clause-none : goal.returns-clause-none
returns-clause-none g c =
    let is = accepted_by _ c.verify.ensures.accepted c.is_err.ensures.value c.if-is_err.false in
    let other = accepted_by _ c.verify-2.ensures.accepted c.is_err-2.ensures.value c.if-is_err-2.false in
    same_none c.proof_collision.result
    (fixed_from c.in-Some.ensures c.in-Some-of_proof.ensures (omega arith) is.0 is.1 other.1)
    c.proof_collision.ensures.none
