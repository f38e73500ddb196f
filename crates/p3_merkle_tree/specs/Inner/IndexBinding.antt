-- What is found at one index of two trees.
use Rattle.std.specs.Prelude.{ℕ, IfOk, IfSome, IsNone, List, None, Option, Result}
use Rattle.p3_merkle_core.specs.Checks.{Params}
use Rattle.p3_merkle_core.specs.Extraction.{RowsAgreeWhereAuthenticated}
use Rattle.p3_merkle_core.specs.Nodes.{Batch}
use Rattle.p3_merkle_core.specs.Openings.{opening_in_layers}
use Rattle.p3_merkle_core.specs.Refusals.{AnswersUnlessMemory}
use Rattle.p3_merkle_core.specs.declared.collision.InputPair.{InputPair}
use Rattle.p3_merkle_core.specs.declared.error.MerkleTreeError.{MerkleTreeError}
use Rattle.p3_merkle_tree.specs.Binding.{AreCommitments, IsCollisionAt}

-- the openings of index i that two trees give agree where rows are authenticated
abbrev pub AgreeAt : {T W : Type 0} → Params T W → Batch T → List (List (List W)) → Batch T → List (List (List W)) →
    ℕ → Type 0
AgreeAt c a a_layers b b_layers i =
    RowsAgreeWhereAuthenticated c (opening_in_layers a a_layers c.layer i) (opening_in_layers b b_layers c.layer i)

module _ {T W : Type 0} (c : Params T W) (cap : List (List W)) (a : Batch T) (a_layers : List (List (List W)))
    (b : Batch T) (b_layers : List (List (List W))) where
  -- what a call returns that compares the openings of index i
  pub record IsFoundAt (i : ℕ) (result : Result (Option (InputPair T (List W))) MerkleTreeError) : Type 0 where
    pub answered : AreCommitments c cap a a_layers b b_layers → AnswersUnlessMemory result None
    pub collision : IfOk result (λ found. IfSome found (IsCollisionAt c a a_layers b b_layers i))
    pub agree : IfOk result (λ found. IsNone found → AgreeAt c a a_layers b b_layers i)
    pub none : AgreeAt c a a_layers b b_layers i → IfOk result (λ found. IsNone found)
