-- What two trees with one cap lead to: their matrices have the same rows, or a collision is found.
use Rattle.std.specs.Prelude.{◌≡◌, ◌<◌, ℕ, IfOk, IfSome, IsNone, IsTrue, List, [], None, Option, Result, length, map}
use Rattle.std.specs.Prelude.{slice_index, slice_index_or}
use Rattle.std.specs.declared.default.Default as default
use Rattle.std.specs.declared.cmp.PartialEq as equality
use Rattle.p3_support.specs.Batches.{greatest}
use Rattle.p3_support.specs.declared.compress.PseudoCompressionFunction as compressor
use Rattle.p3_support.specs.declared.hasher.CryptographicHasher as hasher
use Rattle.p3_support.specs.declared.matrix.Matrix as matrix
use Rattle.p3_support.specs.declared.packed.PackedValue as packed
use Rattle.p3_merkle_core.specs.Checks.{Params, is_authenticated}
use Rattle.p3_merkle_core.specs.Commitments.{IsCommitment}
use Rattle.p3_merkle_core.specs.Extraction.{IsCollision}
use Rattle.p3_merkle_core.specs.Geometry.{Shape, heights}
use Rattle.p3_merkle_core.specs.Nodes.{Batch, shape}
use Rattle.p3_merkle_core.specs.Openings.{opening_in_layers}
use Rattle.p3_merkle_core.specs.Refusals.{AnswersUnlessMemory}
use Rattle.p3_merkle_core.specs.Views.{inputs_in}
use Rattle.p3_merkle_core.specs.declared.cap.CapRule.{CapRule}
use Rattle.p3_merkle_core.specs.declared.cap.CapRule.TheVariants.{Lowered}
use Rattle.p3_merkle_core.specs.declared.collision.InputPair.{InputPair}
use Rattle.p3_merkle_core.specs.declared.error.MerkleTreeError.{MerkleTreeError}
use Rattle.p3_merkle_prover.specs.Parts.{layers_of, tree_batch}
use Rattle.p3_merkle_prover.specs.declared.tree.Tree.{Tree}
use Rattle.p3_merkle_tree.specs.Schemes.{cap_rule_of, params_of}
use Rattle.p3_merkle_tree.specs.declared.mmcs.Scheme.{Scheme}

-- ---- rows of two batches

-- row j of matrix k
abbrev pub row_at : {T : Type 0} → Batch T → ℕ → ℕ → List T
row_at b k j = slice_index_or (map (λ m. m.row j) b.matrices) k []

-- two batches of one shape have the same rows of matrix k
abbrev pub HaveSameRows : {T : Type 0} → Shape → Batch T → Batch T → ℕ → Type 0
HaveSameRows s a b k = (j : ℕ) → j < slice_index (heights s) k → row_at a k j ≡ row_at b k j

-- two batches of one shape have the same rows of each matrix
abbrev pub HaveSameMatrices : {T : Type 0} → Shape → Batch T → Batch T → Type 0
HaveSameMatrices s a b = (k : ℕ) → k < length (heights s) → HaveSameRows s a b k

-- they have the same rows of each authenticated matrix
abbrev pub HaveSameAuthenticated : {T W : Type 0} → Params T W → Batch T → Batch T → Type 0
HaveSameAuthenticated c a b =
    (k : ℕ) → k < length (heights c.shape) → IsTrue (is_authenticated c.shape c.layer k) → HaveSameRows c.shape a b k

-- ---- two trees

-- a collision of the openings of index i that two trees give
abbrev pub IsCollisionAt : {T W : Type 0} → Params T W → Batch T → List (List (List W)) → Batch T →
    List (List (List W)) → ℕ → InputPair T (List W) → Type 0
IsCollisionAt c a a_layers b b_layers i pair =
    IsCollision c (opening_in_layers a a_layers c.layer i) (opening_in_layers b b_layers c.layer i) (inputs_in pair)

module _ {T W : Type 0} (c : Params T W) (cap : List (List W)) (a : Batch T) (a_layers : List (List (List W)))
    (b : Batch T) (b_layers : List (List (List W))) where
  -- two trees are built over batches, and both have this cap
  pub record AreCommitments : Type 0 where
    pub first : IsCommitment c cap a a_layers
    pub second : IsCommitment c cap b b_layers

  -- what a call returns that compares two trees of one shape under a cap of a rule
  pub record IsBinding (rule : CapRule) (result : Result (Option (ℕ × InputPair T (List W))) MerkleTreeError) :
      Type 0 where
    -- for two commitments with one cap the result is Ok, unless memory runs out
    pub answered : AreCommitments → AnswersUnlessMemory result None
    -- two different inputs with one digest are found, in the checks of one index
    pub collision : IfOk result (λ found.
        IfSome found (λ (i, pair). (i < greatest (heights c.shape)) × IsCollisionAt c a a_layers b b_layers i pair))
    -- if nothing is found, each authenticated matrix has the same rows
    pub bound : IfOk result (λ found. IsNone found → HaveSameAuthenticated c a b)
    -- of two commitments with one cap whose authenticated matrices have the same rows, nothing is found
    pub exact : AreCommitments → HaveSameAuthenticated c a b → IfOk result (λ found. IsNone found)
    -- under the lowered rule, if nothing is found, each matrix has the same rows
    pub lowered : rule ≡ Lowered → IfOk result (λ found. IsNone found → HaveSameMatrices c.shape a b)

-- ---- two trees of a scheme

module _ {P PW H C X G V W : Type 0} {N D : ℕ} {p : packed.Ghosts P V} {pd : default.Ghosts V} {pe : equality.Ghosts V}
    {q : packed.Ghosts PW W} {qd : default.Ghosts W} {qe : equality.Ghosts W} {h : hasher.Ghosts H P PW D V W}
    {c : compressor.Ghosts C PW N D W} {M L B : Type 0} {m : matrix.Ghosts M V} {l : matrix.Ghosts L V} where
  -- what a call of a scheme returns that compares two trees under a cap, if their matrices have the same dimensions
  abbrev pub Binds : Scheme P PW H C X G N D V W p pd pe q qd qe h c → List (List W) → Tree V (List W) B M N m →
      Tree V (List W) B L N l → Result (Option (ℕ × InputPair V (List W))) MerkleTreeError → Type 0
  Binds scheme cap first second result =
      let a = tree_batch first in
      let b = tree_batch second in
      shape a ≡ shape b →
      IsBinding (params_of scheme (shape a)) cap a (layers_of first) b (layers_of second) (cap_rule_of scheme) result
