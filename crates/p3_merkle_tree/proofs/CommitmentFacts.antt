-- What the answers of the scheme's calls say in the words of the trait.
use Rattle.std.proofs.Common.{◌≡◌, ◌⊎◌, ℕ, List, Option, Some, None, Result, inl, inr, refl, subst, sym}
use Rattle.std.specs.Prelude.{Ok, Err, IfErr, IfOk, IsOk}
use Rattle.p3_merkle_core.specs.Gate.{gate_refusal}
use Rattle.p3_merkle_core.specs.Geometry.{IsLawful}
use Rattle.p3_merkle_core.specs.declared.error.MerkleTreeError.TheVariants.{OutOfMemory}
use Rattle.p3_merkle_core.specs.declared.error.MerkleTreeError.{MerkleTreeError}
use Rattle.p3_merkle_core.specs.Refusals.{AnswersUnlessMemory}
use Rattle.p3_answers.specs.Answers.{ok_unless}
use Rattle.p3_merkle_core.proofs.Shapes.GateFacts.{gate_lawful}

-- Ok is answered of lawful heights alone
pub lawful_when_ok : {A : Type 0} (hs : List ℕ) (r : Result A MerkleTreeError) →
    AnswersUnlessMemory r (gate_refusal hs) → IfOk r (λ made. IsLawful hs)
lawful_when_ok hs (Ok made) answer = (gate_lawful hs).0 answer
lawful_when_ok hs (Err e) answer = tt

-- of these an error is for want of memory
pub memory_when_lawful : {A : Type 0} (hs : List ℕ) (r : Result A MerkleTreeError) →
    AnswersUnlessMemory r (gate_refusal hs) → IsLawful hs → IfErr r (λ e. e ≡ OutOfMemory)
memory_when_lawful hs (Ok made) answer w = tt
memory_when_lawful hs (Err e) (inl memory) w = memory
memory_when_lawful hs (Err e) (inr refused) w = let none = (gate_lawful hs).1 w in absurd cc

-- an answer Ok is no error
pub no_error_when_ok : {A E : Type 0} (r : Result A E) (what : E → Type 0) → IsOk r → IfErr r what
no_error_when_ok (Ok v) what ok = tt
no_error_when_ok (Err e) what ok = absurd cc

-- what holds whatever is answered holds beside an error
pub kept_by_errors : {A E P : Type 0} (r : Result A E) (is_memory : E → Type 0) → P → IfErr r (λ e. is_memory e ⊎ P)
kept_by_errors (Ok v) is_memory holds = tt
kept_by_errors (Err e) is_memory holds = inr holds

-- where nothing is refused, an error is for want of memory
pub memory_alone : {A : Type 0} (r : Result A MerkleTreeError) → AnswersUnlessMemory r None →
    IfErr r (λ e. e ≡ OutOfMemory)
memory_alone (Ok v) answer = tt
memory_alone (Err e) (inl memory) = memory
memory_alone (Err e) (inr refused) = absurd cc

-- the answer of a refusal answers by it
pub answers_by_definition : (r : Result (Unit {0}) MerkleTreeError) (refusal : Option MerkleTreeError) →
    r ≡ ok_unless refusal tt → AnswersUnlessMemory r refusal
answers_by_definition r None is = subst (λ z. AnswersUnlessMemory z None) (sym is) refl
answers_by_definition r (Some e) is = subst (λ z. AnswersUnlessMemory z (Some e)) (sym is) (inr refl)
