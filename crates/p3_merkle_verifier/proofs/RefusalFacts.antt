-- Why a pruned opening is refused under a cap: by its form, else by the cap.
use Rattle.std.proofs.Common.{◌≡◌, ◌⊎◌, ℕ, List, Bool, sym, subst, IsErrAnd, None, Some, Ok, Err, Option, Result}
use Rattle.std.specs.Option.{option_or}
use Rattle.p3_merkle_core.specs.Checks.{params}
use Rattle.p3_merkle_core.specs.Geometry.{shape_of}
use Rattle.p3_merkle_core.specs.Nodes.{Functions}
use Rattle.p3_merkle_core.specs.Refusals.{AnswersUnlessMemory, cap_refusal, pruned_refusal, pruned_refusal_under}
use Rattle.p3_merkle_core.specs.declared.error.MerkleTreeError.{MerkleTreeError}
use Rattle.p3_merkle_core.specs.declared.error.MerkleTreeError.TheVariants.{OutOfMemory}
use Rattle.p3_merkle_core.specs.declared.schedule.Schedule.{Schedule}
use Rattle.p3_merkle_verifier.specs.Inner.RestoredLevels.{opened_by, pruned_in, tree_of}
use Rattle.p3_merkle_verifier.specs.declared.openings.PrunedOpeningRef.{PrunedOpeningRef}
use Rattle.p3_merkle_verifier.specs.declared.openings.RestorableOpening.{RestorableOpening}

-- the error that a `?` hands on answers what it answered before
pub handed_on : {V : Type 0} (r : Result V MerkleTreeError) (e : MerkleTreeError) (refusal : Option MerkleTreeError) →
    IsErrAnd r (λ x. x ≡ e) → (e ≡ OutOfMemory) ⊎ (refusal ≡ Some e) → AnswersUnlessMemory r refusal
handed_on (Ok v) e refusal err a = absurd err
handed_on (Err x) e refusal is a = rw is a

-- where the form is right, the answer is that of the cap
pub cap_decides : {T W V : Type 0} (row_eq : T → T → Bool) (digest_eq : W → W → Bool) (f : Functions T W)
    (roots : List (List W)) {schedule : Schedule} {t : ℕ} {opening : PrunedOpeningRef T (List W)}
    (restorable : RestorableOpening T (List W)) (r : Result V MerkleTreeError) → restorable.schedule.now ≡ schedule →
    restorable.cap_layer ≡ t → restorable.opening ≡ opening →
    pruned_refusal row_eq (shape_of schedule.arity schedule.dimensions.now) t (pruned_in opening) ≡ None →
    AnswersUnlessMemory r
    (cap_refusal digest_eq (params f (tree_of restorable) restorable.cap_layer) roots (opened_by restorable)) →
    AnswersUnlessMemory r
    (pruned_refusal_under row_eq digest_eq (params f (shape_of schedule.arity schedule.dimensions.now) t) roots
    (pruned_in opening))
cap_decides row_eq digest_eq f roots restorable r same layer is none answer =
    let shape = λ (schedule : Schedule). shape_of schedule.arity schedule.dimensions.now in
    subst (AnswersUnlessMemory r) (λ i. option_or (sym none i)
    (cap_refusal digest_eq (params f (shape (same i)) (layer i)) roots (pruned_in (is i)))) answer
