-- What the answer to an opening means.
use Rattle.std.proofs.Common.{◌≡◌, ◌↔◌, ◌∙◌, ℕ, Bool, List, Option, None, Some, Result, ap, refl, subst, sym}
use Rattle.std.specs.Prelude.{Ok, Err, IsOk}
use Rattle.p3_merkle_core.specs.Checks.{Params}
use Rattle.p3_merkle_core.specs.Geometry.{IsArity, Shape}
use Rattle.p3_merkle_core.specs.Openings.{Opening}
use Rattle.p3_merkle_core.specs.Presented.{IsExactVerdict, IsVerdict, Presented, presented, presented_pruned}
use Rattle.p3_merkle_core.specs.Presented.{presented_to_restore}
use Rattle.p3_merkle_core.specs.Pruning.{PrunedOpening}
use Rattle.p3_merkle_core.specs.Refusals.{AnswersUnlessMemory}
use Rattle.p3_merkle_core.specs.Refusals.{IsEquality, answer_under, pruned_refusal, pruned_refusal_under}
use Rattle.p3_answers.specs.Answers.{ok_unless}
use Rattle.p3_merkle_core.specs.declared.error.MerkleTreeError.{MerkleTreeError}
use Rattle.p3_merkle_core.proofs.Checks.Verdicts.{accepted_answer, accepted_from, pruned_accepted}
use Rattle.p3_merkle_core.proofs.Pruned.Answered.{restorable}
use Rattle.p3_answers.proofs.AnswerFacts.{verdict_ok}
use Rattle.p3_merkle_core.proofs.Pruned.Unrefused.{unrefused}

-- there is one Ok
ok_is : {E : Type 0} (r : Result (Unit {0}) E) → IsOk r → r ≡ Ok tt
ok_is (Ok x) h = refl
ok_is (Err e) h = absurd cc

-- an error that is answered is the refusal
pub some_when_err : {E : Type 0} (refusal : Option E) (e : E) → Err e ≡ ok_unless refusal (tt {0}) → refusal ≡ Some e
some_when_err None e is = absurd cc
some_when_err (Some x) e is = cc

-- Ok is answered exactly where the opening is accepted
pub exact_verdict : {T W : Type 0} (same : W → W → Bool) (c : Params T W) (roots : List (List W)) (o : Opening T W) →
    IsEquality same → (r : Result (Unit {0}) MerkleTreeError) → r ≡ answer_under same c roots o →
    IsExactVerdict (presented same c roots o) r
exact_verdict same c roots o dec r is =
    record {
      answer = is;
      accepted = (
        λ h. accepted_from same c.functions c.shape c.layer roots o dec (sym is ∙ ok_is r h),
        λ w. rw (is ∙ accepted_answer same c.functions c.shape c.layer roots o dec w) refl,
      );
    }

-- so it is of whatever is refused of nothing that is accepted
pub exact_by : {T W : Type 0} (p : Presented T W) → (p.refusal ≡ None) ↔ p.is_accepted →
    (r : Result (Unit {0}) MerkleTreeError) → r ≡ ok_unless p.refusal tt → IsExactVerdict p r
exact_by p decided r is =
    record {
      answer = is;
      accepted = (
        λ h. decided.0 (verdict_ok p.refusal (sym is ∙ ok_is r h)),
        λ a. rw (is ∙ ap (λ refusal. ok_unless refusal (tt {0})) (decided.1 a)) refl,
      );
    }

unrefused_when_ok : {V : Type 0} (r : Result V MerkleTreeError) (refusal : Option MerkleTreeError) →
    AnswersUnlessMemory r refusal → IsOk r → refusal ≡ None
unrefused_when_ok (Ok v) refusal a ok = a
unrefused_when_ok (Err e) refusal a ok = absurd cc

memory_when_unrefused : {V : Type 0} (r : Result V MerkleTreeError) (refusal : Option MerkleTreeError) →
    AnswersUnlessMemory r refusal → refusal ≡ None → AnswersUnlessMemory r None
memory_when_unrefused r refusal a none = subst (AnswersUnlessMemory r) none a

-- an answer by the refusal is a verdict, where nothing is refused exactly of what is accepted
pub verdict_by : {T W V : Type 0} (p : Presented T W) → (p.refusal ≡ None) ↔ p.is_accepted →
    (r : Result V MerkleTreeError) → AnswersUnlessMemory r p.refusal → IsVerdict p r
verdict_by p decided r answer =
    record {
      answer = answer;
      ok_is_accepted = λ ok. decided.0 (unrefused_when_ok r p.refusal answer ok);
      accepted_is_ok = λ accepted. memory_when_unrefused r p.refusal answer (decided.1 accepted);
    }

-- so it is of a pruned opening
pub pruned_verdict : {T W V : Type 0} (eq : T → T → Bool) (same : W → W → Bool) (c : Params T W) (cap : List (List W))
    (p : PrunedOpening T W) → IsEquality eq → IsEquality same → IsArity c.shape.arity →
    (r : Result V MerkleTreeError) → AnswersUnlessMemory r (pruned_refusal_under eq same c cap p) →
    IsVerdict (presented_pruned eq same c cap p) r
pruned_verdict eq same c cap p dec dec_w w r answer =
    let accept = pruned_accepted eq same c.functions c.shape c.layer cap p dec dec_w w in
    verdict_by (presented_pruned eq same c cap p) (
      λ none. accept.0 (ap (λ refusal. ok_unless refusal (tt {0})) none),
      λ a. verdict_ok (pruned_refusal_under eq same c cap p) (accept.1 a),
    ) r answer

-- and of its restored paths
pub restoring_verdict : {T W V : Type 0} (eq : T → T → Bool) (s : Shape) (t : ℕ) (p : PrunedOpening T W) →
    IsEquality eq → (r : Result V MerkleTreeError) → AnswersUnlessMemory r (pruned_refusal eq s t p) →
    IsVerdict (presented_to_restore eq s t p) r
restoring_verdict eq s t p dec r answer =
    verdict_by (presented_to_restore eq s t p) (
      λ none. restorable eq s t p dec (ap (λ refusal. ok_unless refusal (tt {0})) none),
      λ w. verdict_ok (pruned_refusal eq s t p) (unrefused eq s t p dec w),
    ) r answer
