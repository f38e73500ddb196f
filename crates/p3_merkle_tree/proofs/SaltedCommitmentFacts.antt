-- What the answers of the salted calls say in the words of the trait.
use Rattle.std.proofs.Common.{◌≡◌, ℕ, List, Result, None, inl, inr, map, subst, sym}
use Rattle.std.specs.Prelude.{Ok, Err, IfErr, IfOk}
use Rattle.p3_support.specs.Batches.{CanWiden}
use Rattle.p3_merkle_core.specs.Refusals.{AnswersUnlessMemory}
use Rattle.p3_merkle_core.specs.Views.{matrix_of}
use Rattle.p3_merkle_core.specs.Gate.{gate_refusal}
use Rattle.p3_merkle_core.specs.Nodes.{dimensions_of}
use Rattle.p3_merkle_core.specs.declared.error.MerkleTreeError.{MerkleTreeError}
use Rattle.p3_merkle_core.specs.declared.error.MerkleTreeError.TheVariants.{OutOfMemory}
use Rattle.p3_support.specs.Batches.{heights_of}
use Rattle.p3_merkle_core.proofs.Shapes.GateFacts.{gate_lawful}
use Rattle.p3_answers.proofs.AnswerFacts.{none_of_both, none_parts}
use Rattle.p3_merkle_core.proofs.Lists.ViewFacts.{dimensions_are}
use Rattle.p3_merkle_tree.proofs.SaltFacts.{widening}
use Rattle.p3_merkle_tree.specs.SaltRefusals.{salted_commit_refusal, widening_refusal}
use Rattle.p3_merkle_tree.specs.SaltedCommitments.{CanCommitSalted}

module _ {T M : Type 0} (height width : M → ℕ) (row : M → ℕ → List T) (e : ℕ) (ms : List M) where
  -- matrices are refused exactly if they can't be committed to
  can_when_none : salted_commit_refusal e (dimensions_of (map (matrix_of height width row) ms)) ≡ None →
      CanCommitSalted height width row e ms
  can_when_none none =
      let ds = dimensions_of (map (matrix_of height width row) ms) in
      let both = none_parts (gate_refusal (heights_of ds)) (widening_refusal e ds) none in
      record {
        lawful = (gate_lawful (heights_of ds)).0 both.0;
        can_widen = subst (CanWiden e) (dimensions_are height width row ms) ((widening e ds).0 both.1);
      }

  none_when_can : CanCommitSalted height width row e ms →
      salted_commit_refusal e (dimensions_of (map (matrix_of height width row) ms)) ≡ None
  none_when_can w =
      let ds = dimensions_of (map (matrix_of height width row) ms) in
      none_of_both (gate_refusal (heights_of ds)) (widening_refusal e ds) ((gate_lawful (heights_of ds)).1 w.lawful)
      ((widening e ds).1 (subst (CanWiden e) (sym (dimensions_are height width row ms)) w.can_widen))

  -- Ok is answered of matrices alone that can be committed to
  pub can_when_ok : {A : Type 0} (r : Result A MerkleTreeError) →
      AnswersUnlessMemory r (salted_commit_refusal e (dimensions_of (map (matrix_of height width row) ms))) →
      IfOk r (λ made. CanCommitSalted height width row e ms)
  can_when_ok (Ok made) answer = can_when_none answer
  can_when_ok (Err x) answer = tt

  -- of matrices that can be committed to, an error is for want of memory
  pub memory_when_can : {A : Type 0} (r : Result A MerkleTreeError) →
      AnswersUnlessMemory r (salted_commit_refusal e (dimensions_of (map (matrix_of height width row) ms))) →
      CanCommitSalted height width row e ms → IfErr r (λ x. x ≡ OutOfMemory)
  memory_when_can (Ok made) answer w = tt
  memory_when_can (Err x) (inl memory) w = memory
  memory_when_can (Err x) (inr refused) w = let none = none_when_can w in absurd cc
