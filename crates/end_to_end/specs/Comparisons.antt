-- What the comparison of an opening that anybody claims with the honest one answers.
use Rattle.std.specs.Prelude.{◌≡◌, ◌≢◌, ◌↔◌, ◌<◌, ℕ, Bool, IfOk, IfSome, IsNone, IsSome, IsTrue, List, [], MatchResult}
use Rattle.std.specs.Prelude.{None, Option, Result, length, slice_index_or}
use Rattle.p3_support.specs.declared.matrix.Dimensions.{Dimensions}
use Rattle.p3_merkle_tree.specs.CapRule.{CapRule}
use Rattle.p3_merkle_tree.specs.CapRule.TheVariants.{Lowered}
use Rattle.p3_merkle_tree.specs.Checks.{AgreeWhereShared, IsAccepted, Params, is_authenticated}
use Rattle.p3_merkle_tree.specs.Extraction.{IsCollision, IsFirstCollision, ProofsAgreeWhereAuthenticated}
use Rattle.p3_merkle_tree.specs.Extraction.{RowsAgreeWhereAuthenticated}
use Rattle.p3_merkle_tree.specs.Extraction.{RowsConflictSomewhere, SomePair}
use Rattle.p3_merkle_tree.specs.Geometry.{heights}
use Rattle.p3_merkle_tree.specs.InputPair.{InputPair}
use Rattle.p3_merkle_tree.specs.MerkleTreeError.{MerkleTreeError}
use Rattle.p3_merkle_tree.specs.MerkleTreeError.TheVariants.{OutOfMemory}
use Rattle.p3_merkle_tree.specs.Openings.{Opening}
use Rattle.p3_merkle_tree.specs.Presented.{presented_pruned}
use Rattle.p3_merkle_tree.specs.Pruning.{IsPrunedAccepted, PrunedOpening, opening_at}
use Rattle.p3_merkle_tree.specs.Refusals.{AnswersUnlessMemory, pruned_refusal_under, refusal_under}
use Rattle.p3_merkle_tree.specs.SaltedExtraction.{AgreeWhereAuthenticated, ConflictSomewhere, SaltedProofsAgree}
use Rattle.p3_merkle_tree.specs.SaltedExtraction.{SomeSaltedPair}
use Rattle.p3_merkle_tree.specs.SaltedOpenings.{IsSaltedAccepted, IsSaltedPrunedAccepted, SaltedOpening, SaltedPruned}
use Rattle.p3_merkle_tree.specs.SaltedOpenings.{joined, joined_sets}
use Rattle.p3_merkle_tree.specs.SaltedPresented.{presented_salted_pruned}
use Rattle.p3_merkle_tree.specs.SaltRefusals.{salted_pruned_refusal_under, salted_refusal_under}
use Rattle.p3_merkle_tree.specs.Views.{inputs_in}

-- ---- openings of one index

-- a claimed row of some authenticated matrix is not the honest one
abbrev pub ClaimsAnotherRow : {T W : Type 0} → Params T W → (claimed honest : List (List T)) → Type 0
ClaimsAnotherRow c claimed honest =
    (k : ℕ) × (k < length (heights c.shape)) × IsTrue (is_authenticated c.shape c.layer k) ×
    (slice_index_or claimed k [] ≢ slice_index_or honest k [])

-- what is found in a claimed opening beside the honest one, under a cap
pub record IsComparison {T W : Type 0} (digest_eq : W → W → Bool) (rule : CapRule) (c : Params T W)
    (cap : List (List W)) (claimed honest : Opening T W)
    (found : Result (Option (InputPair T (List W))) MerkleTreeError) : Type 0 where
  -- the claimed opening is refused for the first reason that holds, and Ok means that it is accepted
  pub answer : AnswersUnlessMemory found (refusal_under digest_eq c cap claimed)
  pub accepted : IfOk found (λ pair. IsAccepted c cap claimed)
  -- an accepted one is answered Ok, unless memory runs out
  pub answered : IsAccepted c cap claimed → AnswersUnlessMemory found None
  -- what is found is a collision of both openings
  pub collision : IfOk found (λ pair. IfSome pair (λ inputs. IsCollision c claimed honest (inputs_in inputs)))
  -- nothing is found exactly where siblings and authenticated rows are the honest ones
  pub none : IfOk found (λ pair. IsNone pair ↔ RowsAgreeWhereAuthenticated c claimed honest)
  -- an accepted opening that claims another row gives a collision, unless memory runs out
  pub bound : IsAccepted c cap claimed → ClaimsAnotherRow c claimed.rows honest.rows →
      MatchResult found (λ pair. IsSome pair) (λ e. e ≡ OutOfMemory)
  -- under the lowered rule, so does one that conflicts with the honest one in any matrix
  pub lowered : rule ≡ Lowered → IsAccepted c cap claimed → RowsConflictSomewhere c claimed honest →
      MatchResult found (λ pair. IsSome pair) (λ e. e ≡ OutOfMemory)

-- the same of openings with e salts a row, of matrices of these dimensions without salts
pub record IsSaltedComparison {T W : Type 0} (digest_eq : W → W → Bool) (rule : CapRule) (e : ℕ)
    (dimensions : List Dimensions) (c : Params T W) (cap : List (List W)) (claimed honest : SaltedOpening T W)
    (found : Result (Option (InputPair T (List W))) MerkleTreeError) : Type 0 where
  pub answer : AnswersUnlessMemory found (salted_refusal_under digest_eq e dimensions c cap claimed)
  pub accepted : IfOk found (λ pair. IsSaltedAccepted e dimensions c cap claimed)
  pub answered : IsSaltedAccepted e dimensions c cap claimed → AnswersUnlessMemory found None
  pub collision : IfOk found (λ pair.
      IfSome pair (λ inputs. IsCollision c (joined claimed) (joined honest) (inputs_in inputs)))
  -- nothing is found exactly where siblings, and the rows and salts of authenticated matrices, are the honest ones
  pub none : IfOk found (λ pair. IsNone pair ↔ AgreeWhereAuthenticated c claimed honest)
  pub bound : IsSaltedAccepted e dimensions c cap claimed → ClaimsAnotherRow c claimed.rows honest.rows →
      MatchResult found (λ pair. IsSome pair) (λ e. e ≡ OutOfMemory)
  -- under the lowered rule, so does one with another row or other salts of any matrix
  pub lowered : rule ≡ Lowered → IsSaltedAccepted e dimensions c cap claimed → ConflictSomewhere c claimed honest →
      MatchResult found (λ pair. IsSome pair) (λ e. e ≡ OutOfMemory)

-- ---- openings of several indices

-- a row that is claimed for some of n queries, of an authenticated matrix, is not the honest one
abbrev pub ClaimsAnotherRowSet : {T W : Type 0} → Params T W → ℕ → (claimed honest : List (List (List T))) → Type 0
ClaimsAnotherRowSet c n claimed honest =
    (i : ℕ) × (i < n) × ClaimsAnotherRow c (slice_index_or claimed i []) (slice_index_or honest i [])

-- each claimed query and each honest one agree at all places that both check
abbrev pub AgreeWhereBothCheck : {T W : Type 0} → Params T W → (claimed honest : PrunedOpening T W) → Type 0
AgreeWhereBothCheck c claimed honest =
    (i j : ℕ) → i < length claimed.indices → j < length honest.indices →
    AgreeWhereShared c (opening_at c claimed i) (opening_at c honest j)

-- what is found in a claimed pruned opening beside the honest one, under a cap: the place of a claimed query, that of
-- an honest one, and their inputs
pub record IsPrunedComparison {T W : Type 0} (row_eq : T → T → Bool) (digest_eq : W → W → Bool) (rule : CapRule)
    (c : Params T W) (cap : List (List W)) (claimed honest : PrunedOpening T W)
    (found : Result (Option (ℕ × ℕ × InputPair T (List W))) MerkleTreeError) : Type 0 where
  -- the claimed opening is refused for the first reason that holds, and Ok means that it is accepted
  pub answer : AnswersUnlessMemory found (pruned_refusal_under row_eq digest_eq c cap claimed)
  pub accepted : IfOk found (λ pair. IsPrunedAccepted c cap claimed)
  -- an accepted one is answered Ok, unless memory runs out
  pub answered : IsPrunedAccepted c cap claimed → AnswersUnlessMemory found None
  -- what is found is a collision of two queries, each with its restored path, and all pairs before them agree
  pub collision : let shown = presented_pruned row_eq digest_eq c cap in IfOk found (λ pair.
      IfSome pair (λ (i, j, inputs). IsFirstCollision c (shown claimed) (shown honest) (i, j, inputs_in inputs)))
  -- nothing is found exactly where all checks agree; then each query has the honest siblings and authenticated rows
  pub none : IfOk found (λ pair. IsNone pair ↔ AgreeWhereBothCheck c claimed honest)
  pub agree : IfOk found (λ pair. IsNone pair → (i : ℕ) → i < length claimed.indices →
      RowsAgreeWhereAuthenticated c (opening_at c claimed i) (opening_at c honest i))
  -- nothing is found exactly where the digests and authenticated rows are the honest ones
  pub only : IfOk found (λ pair. IsNone pair ↔ ProofsAgreeWhereAuthenticated c claimed honest)
  -- under the lowered rule, exactly where the opening is the honest one
  pub lowered_only : rule ≡ Lowered → IfOk found (λ pair. IsNone pair ↔ (claimed ≡ honest))
  -- an accepted opening that claims another row gives a collision, unless memory runs out
  pub bound : IsPrunedAccepted c cap claimed →
      ClaimsAnotherRowSet c (length claimed.indices) claimed.rows honest.rows →
      MatchResult found (λ pair. IsSome pair) (λ e. e ≡ OutOfMemory)
  -- under the lowered rule, so does one with a query that conflicts with an honest one in any matrix
  pub lowered : let shown = presented_pruned row_eq digest_eq c cap in
      rule ≡ Lowered → IsPrunedAccepted c cap claimed →
      SomePair (shown claimed) (shown honest) (RowsConflictSomewhere c) →
      MatchResult found (λ pair. IsSome pair) (λ e. e ≡ OutOfMemory)

-- the same of openings with e salts a row, of matrices of these dimensions without salts
pub record IsSaltedPrunedComparison {T W : Type 0} (row_eq : T → T → Bool) (digest_eq : W → W → Bool)
    (rule : CapRule) (e : ℕ) (dimensions : List Dimensions) (c : Params T W) (cap : List (List W))
    (claimed honest : SaltedPruned T W)
    (found : Result (Option (ℕ × ℕ × InputPair T (List W))) MerkleTreeError) : Type 0 where
  pub answer : AnswersUnlessMemory found (salted_pruned_refusal_under row_eq digest_eq e dimensions c cap claimed)
  pub accepted : IfOk found (λ pair. IsSaltedPrunedAccepted e dimensions c cap claimed)
  pub answered : IsSaltedPrunedAccepted e dimensions c cap claimed → AnswersUnlessMemory found None
  pub collision : let shown = presented_salted_pruned row_eq digest_eq e dimensions c cap in IfOk found (λ pair.
      IfSome pair (λ (i, j, inputs). IsFirstCollision c (shown claimed) (shown honest) (i, j, inputs_in inputs)))
  pub none : IfOk found (λ pair. IsNone pair ↔ AgreeWhereBothCheck c (joined_sets claimed) (joined_sets honest))
  -- then each query has the honest siblings, and the honest rows and salts of authenticated matrices
  pub agree : IfOk found (λ pair. IsNone pair → (i : ℕ) → i < length claimed.indices →
      RowsAgreeWhereAuthenticated c (opening_at c (joined_sets claimed) i) (opening_at c (joined_sets honest) i))
  -- nothing is found exactly where the digests, and the rows and salts of authenticated matrices, are the honest ones
  pub only : IfOk found (λ pair. IsNone pair ↔ SaltedProofsAgree c claimed honest)
  -- under the lowered rule, exactly where the opening is the honest one
  pub lowered_only : rule ≡ Lowered → IfOk found (λ pair. IsNone pair ↔ (claimed ≡ honest))
  pub bound : IsSaltedPrunedAccepted e dimensions c cap claimed →
      ClaimsAnotherRowSet c (length claimed.indices) claimed.rows honest.rows →
      MatchResult found (λ pair. IsSome pair) (λ e. e ≡ OutOfMemory)
  -- under the lowered rule, so does one with a query that conflicts with an honest one in any matrix
  pub lowered : rule ≡ Lowered → IsSaltedPrunedAccepted e dimensions c cap claimed →
      SomeSaltedPair c claimed honest (ConflictSomewhere c) →
      MatchResult found (λ pair. IsSome pair) (λ e. e ≡ OutOfMemory)
