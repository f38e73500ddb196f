-- An opening as a verifier reads it, and what a verifier returns.
use Rattle.std.specs.Prelude.{◌≡◌, ◌↔◌, ℕ, Bool, IsOk, List, [], None, Option, Result, length}
use Rattle.p3_merkle_core.specs.Geometry.{Shape}
use Rattle.p3_merkle_core.specs.Openings.{Opening, opening_of}
use Rattle.p3_merkle_core.specs.Checks.{IsAccepted, Params}
use Rattle.p3_merkle_core.specs.Pruning.{IsPrunedAccepted, IsRestorable, PrunedOpening, opening_at}
use Rattle.p3_merkle_core.specs.Refusals.{AnswersUnlessMemory, pruned_refusal, pruned_refusal_under}
use Rattle.p3_answers.specs.Answers.{ok_unless}
use Rattle.p3_merkle_core.specs.Refusals.{refusal_under}
use Rattle.p3_merkle_core.specs.declared.error.MerkleTreeError.{MerkleTreeError}

-- an opening of one index or of several, in a form that both have: when it is accepted, why it is refused, how many
-- queries are checked, and each of them as an opening of one index; `IsVerdict` says that what a call returns agrees
-- with when it is accepted and why it is refused
pub record Presented (T W : Type 0) : Type 1 where
  pub is_accepted : Type 0
  pub refusal : Option MerkleTreeError
  pub queries : ℕ
  pub query : ℕ → Opening T W

-- an opening of one index, under a cap: it is its only query
abbrev pub presented : {T W : Type 0} → (W → W → Bool) → Params T W → List (List W) → Opening T W → Presented T W
presented digest_eq c cap o =
    record { is_accepted = IsAccepted c cap o; refusal = refusal_under digest_eq c cap o; queries = 1; query = λ k. o }

-- a pruned opening, under a cap: its queries are checked with their restored paths
abbrev pub presented_pruned : {T W : Type 0} → (T → T → Bool) → (W → W → Bool) → Params T W → List (List W) →
    PrunedOpening T W → Presented T W
presented_pruned row_eq digest_eq c cap p =
    record {
      is_accepted = IsPrunedAccepted c cap p;
      refusal = pruned_refusal_under row_eq digest_eq c cap p;
      queries = length p.indices;
      query = opening_at c p;
    }

-- a pruned opening whose paths are restored, whatever the cap, which is layer t: here accepted means that it restores,
-- and no query is checked
abbrev pub presented_to_restore : {T W : Type 0} → (T → T → Bool) → Shape → ℕ → PrunedOpening T W → Presented T W
presented_to_restore row_eq s t p =
    record {
      is_accepted = IsRestorable s t p;
      refusal = pruned_refusal row_eq s t p;
      queries = 0;
      query = λ k. opening_of 0 [] [];
    }

-- what a verifier returns for an opening: an error is the definition's refusal; Ok means that the opening is accepted,
-- and for an accepted one the result is Ok unless memory runs out
pub record IsVerdict {T W V : Type 0} (presented : Presented T W) (result : Result V MerkleTreeError) : Type 0 where
  pub answer : AnswersUnlessMemory result presented.refusal
  pub ok_is_accepted : IsOk result → presented.is_accepted
  pub accepted_is_ok : presented.is_accepted → AnswersUnlessMemory result None

-- Ok means that another opening is accepted, and for an accepted one the result is Ok unless memory runs out
pub record IsAcceptedAs {T W V : Type 0} (presented : Presented T W) (result : Result V MerkleTreeError) : Type 0 where
  pub ok_is_accepted : IsOk result → presented.is_accepted
  pub accepted_is_ok : presented.is_accepted → AnswersUnlessMemory result None

-- what a verifier returns that takes no memory: an error is the definition's refusal, and Ok means that the opening is
-- accepted, and the other way round
pub record IsExactVerdict {T W : Type 0} (presented : Presented T W) (result : Result (Unit {0}) MerkleTreeError) :
    Type 0 where
  pub answer : result ≡ ok_unless presented.refusal tt
  pub accepted : IsOk result ↔ presented.is_accepted
