-- What two salted trees with one cap lead to: their matrices have the same rows and salts, or a collision is found.
use Rattle.std.specs.Prelude.{◌≡◌, ℕ, IfOk, IsNone, List, Option, Result}
use Rattle.std.specs.declared.default.Default as default
use Rattle.std.specs.declared.cmp.PartialEq as equality
use Rattle.p3_support.specs.declared.compress.PseudoCompressionFunction as compressor
use Rattle.p3_support.specs.declared.hasher.CryptographicHasher as hasher
use Rattle.p3_support.specs.declared.matrix.Matrix.{Ghosts}
use Rattle.p3_support.specs.declared.packed.PackedValue as packed
use Rattle.p3_support.specs.declared.pair.HorizontalPair.{HorizontalPair}
use Rattle.p3_merkle_core.specs.Checks.{Params}
use Rattle.p3_merkle_core.specs.Nodes.{shape}
use Rattle.p3_merkle_core.specs.declared.cap.CapRule.{CapRule}
use Rattle.p3_merkle_core.specs.declared.cap.CapRule.TheVariants.{Lowered}
use Rattle.p3_merkle_core.specs.declared.collision.InputPair.{InputPair}
use Rattle.p3_merkle_core.specs.declared.error.MerkleTreeError.{MerkleTreeError}
use Rattle.p3_merkle_prover.specs.Parts.{layers_of, matrices_of, tree_batch}
use Rattle.p3_merkle_prover.specs.declared.tree.Tree.{Tree}
use Rattle.p3_merkle_tree.specs.Binding.{HaveSameAuthenticated, HaveSameMatrices, IsBinding}
use Rattle.p3_merkle_tree.specs.HidingSchemes.{plain_of}
use Rattle.p3_merkle_tree.specs.SaltedTrees.{HaveSaltColumns, left_batch, right_batch, unsalted_dimensions}
use Rattle.p3_merkle_tree.specs.Schemes.{cap_rule_of, params_of}
use Rattle.p3_merkle_tree.specs.declared.hiding_mmcs.HidingScheme.{HidingScheme}

module _ {T A B S U : Type 0} {a : Ghosts A T} {b : Ghosts B T} {s : Ghosts S T} {u : Ghosts U T} where
  -- two lists of pairs: the left matrices have the same dimensions, and there are e salts a row
  pub record AreAlike (n e : ℕ) (first : List (HorizontalPair T A S a s)) (second : List (HorizontalPair T B U b u)) :
      Type 0 where
    pub same_dimensions : unsalted_dimensions n first ≡ unsalted_dimensions n second
    pub first_columns : HaveSaltColumns e first
    pub second_columns : HaveSaltColumns e second

  -- what is found in two such lists, in the words of rows and salts
  pub record TellsOfSalts {W : Type 0} (n : ℕ) (rule : CapRule) (c : Params T W)
      (first : List (HorizontalPair T A S a s)) (second : List (HorizontalPair T B U b u))
      (result : Result (Option (ℕ × InputPair T (List W))) MerkleTreeError) : Type 0 where
    -- if nothing is found, each authenticated matrix has the same rows, and the same salts
    pub rows : IfOk result (λ found.
        IsNone found → HaveSameAuthenticated c (left_batch n first) (left_batch n second))
    pub salts : IfOk result (λ found.
        IsNone found → HaveSameAuthenticated c (right_batch n first) (right_batch n second))
    -- under the lowered rule, each matrix has
    pub lowered_rows : rule ≡ Lowered →
        IfOk result (λ found. IsNone found → HaveSameMatrices c.shape (left_batch n first) (left_batch n second))
    pub lowered_salts : rule ≡ Lowered →
        IfOk result (λ found. IsNone found → HaveSameMatrices c.shape (right_batch n first) (right_batch n second))

module _ {P PW H C R X G V W : Type 0} {N D E : ℕ} {p : packed.Ghosts P V} {pd : default.Ghosts V}
    {pe : equality.Ghosts V} {q : packed.Ghosts PW W} {qd : default.Ghosts W} {qe : equality.Ghosts W}
    {h : hasher.Ghosts H P PW D V W} {c : compressor.Ghosts C PW N D W} {A B S U Z : Type 0} {a : Ghosts A V}
    {b : Ghosts B V} {s : Ghosts S V} {u : Ghosts U V} {m : Ghosts (HorizontalPair V A S a s) V}
    {l : Ghosts (HorizontalPair V B U b u) V} (scheme : HidingScheme P PW H C R X G N D E V W p pd pe q qd qe h c)
    (cap : List (List W)) (first : Tree V (List W) Z (HorizontalPair V A S a s) N m)
    (second : Tree V (List W) Z (HorizontalPair V B U b u) N l)
    (result : Result (Option (ℕ × InputPair V (List W))) MerkleTreeError) where
  -- what a call of a salted scheme returns that compares two trees under a cap
  pub record IsSaltedBinding : Type 0 where
    -- of the rows followed by their salts it is what a call of the plain scheme returns
    pub binding : let k = params_of (plain_of scheme) (shape (tree_batch first)) in
        IsBinding k cap (tree_batch first) (layers_of first) (tree_batch second) (layers_of second)
        (cap_rule_of (plain_of scheme)) result
    pub tells : let k = params_of (plain_of scheme) (shape (tree_batch first)) in
        TellsOfSalts N (cap_rule_of (plain_of scheme)) k (matrices_of first) (matrices_of second) result

  -- the same, if their matrices have the same dimensions, and E salts a row
  abbrev pub BindsSalted : Type 0
  BindsSalted = AreAlike N E (matrices_of first) (matrices_of second) → IsSaltedBinding
