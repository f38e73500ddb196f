-- What a pruned opening comes to as a whole, and by its restored paths: it is accepted exactly if it restores and each
-- query is accepted with its restored path.
use Rattle.std.specs.Prelude.{◌≡◌, ◌↔◌, ◌<◌, ℕ, All, Bool, IfOk, IsErr, IsOk, List, [], Ok, Result, length}
use Rattle.std.specs.Prelude.{slice_index_or}
use Rattle.std.specs.Result.{result_map_both}
use Rattle.std.specs.declared.vec.Vec.{Vec}
use Rattle.p3_answers.specs.Answers.{ok_unless}
use Rattle.p3_support.specs.declared.matrix.Dimensions.{Dimensions}
use Rattle.p3_merkle_tree.specs.AuthPath.{AuthPath}
use Rattle.p3_merkle_tree.specs.Checks.{Params}
use Rattle.p3_merkle_tree.specs.MerkleTreeError.{MerkleTreeError}
use Rattle.p3_merkle_tree.specs.Presented.{IsExactVerdict, Presented, presented, presented_pruned, presented_to_restore}
use Rattle.p3_merkle_tree.specs.Pruning.{PrunedOpening, opening_at, restored_paths}
use Rattle.p3_merkle_tree.specs.SaltedExtraction.{salted_opening_at}
use Rattle.p3_merkle_tree.specs.SaltedOpenings.{SaltedPruned, joined_sets}
use Rattle.p3_merkle_tree.specs.SaltedPresented.{presented_salted, presented_salted_pruned, presented_salted_to_restore}
use Rattle.p3_merkle_tree.specs.Views.{shown_paths}

-- the paths that a restoration returns, or its error
abbrev pub paths_shown : {X A : Type 0} → Result (Vec (AuthPath X) A) MerkleTreeError →
    Result (List (ℕ × List X)) MerkleTreeError
paths_shown paths = result_map_both (λ paths. shown_paths paths.items) (λ e. e) paths

-- what is answered of an opening as a whole, of its restoration to these paths, and of each of its queries
pub record AreAnswers {T W : Type 0} (opening restoration : Presented T W) (restored : List (ℕ × List (List W)))
    (queries : ℕ) (query : ℕ → Presented T W) (verdict : Result (Unit {0}) MerkleTreeError)
    (paths : Result (List (ℕ × List (List W))) MerkleTreeError) (each : List (Result (Unit {0}) MerkleTreeError)) :
    Type 0 where
  -- the opening as a whole has its verdict
  pub of_opening : IsExactVerdict opening verdict
  -- it restores exactly if it is restorable, to its paths; else the error is the definition's
  pub of_restoration : paths ≡ ok_unless restoration.refusal restored
  pub restores : IsOk paths ↔ restoration.is_accepted
  -- if it restores, each query has the verdict on its rows with its restored path
  pub count : IsOk paths → length each ≡ queries
  pub of_queries : IsOk paths → (k : ℕ) → k < queries → IsExactVerdict (query k) (slice_index_or each k (Ok tt))
  pub no_queries : IsErr paths → each ≡ []
  -- it is accepted exactly if it restores and each query is accepted with its restored path
  pub same_verdict : IsOk verdict ↔ (IsOk paths × All IsOk each)

-- the answers to a pruned opening under a cap
abbrev pub AreAnswersByPaths : {T W : Type 0} → (row_eq : T → T → Bool) → (digest_eq : W → W → Bool) → Params T W →
    (cap : List (List W)) → PrunedOpening T W → Result (Unit {0}) MerkleTreeError →
    Result (List (ℕ × List (List W))) MerkleTreeError → List (Result (Unit {0}) MerkleTreeError) → Type 0
AreAnswersByPaths row_eq digest_eq c cap p =
    AreAnswers (presented_pruned row_eq digest_eq c cap p) (presented_to_restore row_eq c.shape c.layer p)
    (restored_paths c p) (length p.indices) (λ k. presented digest_eq c cap (opening_at c p k))

-- the same of openings with e salts a row, of matrices of these dimensions without salts
abbrev pub AreAnswersBySaltedPaths : {T W : Type 0} → (row_eq : T → T → Bool) → (digest_eq : W → W → Bool) → ℕ →
    List Dimensions → Params T W → (cap : List (List W)) → SaltedPruned T W → Result (Unit {0}) MerkleTreeError →
    Result (List (ℕ × List (List W))) MerkleTreeError → List (Result (Unit {0}) MerkleTreeError) → Type 0
AreAnswersBySaltedPaths row_eq digest_eq e dimensions c cap p =
    AreAnswers (presented_salted_pruned row_eq digest_eq e dimensions c cap p)
    (presented_salted_to_restore row_eq e dimensions c.shape c.layer p) (restored_paths c (joined_sets p))
    (length p.indices) (λ k. presented_salted digest_eq e dimensions c cap (salted_opening_at c p k))
