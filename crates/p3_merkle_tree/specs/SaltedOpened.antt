-- What a salted scheme commits to, and what it opens of a tree.
use Rattle.std.specs.Prelude.{◌≡◌, ℕ, List, OnOk, Result, [], map}
use Rattle.std.specs.declared.default.Default as default
use Rattle.std.specs.declared.cmp.PartialEq as equality
use Rattle.p3_support.specs.declared.compress.PseudoCompressionFunction as compressor
use Rattle.p3_support.specs.declared.hasher.CryptographicHasher as hasher
use Rattle.p3_support.specs.declared.matrix.Matrix.{Ghosts}
use Rattle.p3_support.specs.declared.pair.HorizontalPair.{HorizontalPair}
use Rattle.p3_support.specs.declared.packed.PackedValue as packed
use Rattle.rand_core.specs.Stream.{Stream}
use Rattle.p3_merkle_core.specs.Commitments.{IsOwn}
use Rattle.p3_merkle_core.specs.Nodes.{Matrix, shape}
use Rattle.p3_merkle_core.specs.Openings.{honest, honest_rows, node_in, siblings_by}
use Rattle.p3_merkle_core.specs.Pruning.{boundary_by, honest_query}
use Rattle.p3_merkle_prover.specs.Parts.{layers_of, matrices_of, tree_batch}
use Rattle.p3_merkle_prover.specs.declared.tree.Tree.{Tree}
use Rattle.p3_merkle_tree.specs.Schemes.{cap_layer_of, params_of}
use Rattle.p3_merkle_tree.specs.HidingSchemes.{generator_of, plain_of, salted_params_of}
use Rattle.p3_merkle_tree.specs.Salted.{IsAfterSome, after_salts}
use Rattle.p3_merkle_tree.specs.SaltedCommitments.{IsSaltedCommitment}
use Rattle.p3_merkle_tree.specs.SaltedOpenings.{IsSaltedAccepted, IsSaltedPrunedAccepted, SaltedOpening, SaltedPruned}
use Rattle.p3_merkle_tree.specs.SaltedTrees.{left_batch, right_batch, unsalted_dimensions}
use Rattle.p3_merkle_tree.specs.declared.hiding_mmcs.HidingScheme.{HidingScheme}

-- what a commitment to matrices leaves of a scheme: after Ok its generator stands after the salts of all rows, and in
-- any case after those of the first few matrices; nothing else changes
pub record Draws {P PW H C R X G V W A F : Type 0} {N D E : ℕ} {p : packed.Ghosts P V} {pd : default.Ghosts V}
    {pe : equality.Ghosts V} {q : packed.Ghosts PW W} {qd : default.Ghosts W} {qe : equality.Ghosts W}
    {h : hasher.Ghosts H P PW D V W} {c : compressor.Ghosts C PW N D W} (stream : R → Stream)
    (matrices : List (Matrix V)) (old new : HidingScheme P PW H C R X G N D E V W p pd pe q qd qe h c)
    (result : Result A F) : Type 0 where
  pub generator_after : OnOk result (stream (generator_of new) ≡ after_salts E matrices (stream (generator_of old)))
  pub further : IsAfterSome E matrices (stream (generator_of old)) (stream (generator_of new))
  pub scheme : plain_of new ≡ plain_of old

module _ {P PW H C R X G V W : Type 0} {N D E : ℕ} {p : packed.Ghosts P V} {pd : default.Ghosts V}
    {pe : equality.Ghosts V} {q : packed.Ghosts PW W} {qd : default.Ghosts W} {qe : equality.Ghosts W}
    {h : hasher.Ghosts H P PW D V W} {c : compressor.Ghosts C PW N D W} {A B Z : Type 0} {a : Ghosts A V}
    {b : Ghosts B V} {m : Ghosts (HorizontalPair V A B a b) V} where
  -- a tree over matrices beside their salts is built with the scheme's functions, and this is its cap
  abbrev pub CommitsSalted : HidingScheme P PW H C R X G N D E V W p pd pe q qd qe h c → List (List W) →
      Tree V (List W) Z (HorizontalPair V A B a b) N m → Type 0
  CommitsSalted scheme cap tree =
      let batch = tree_batch tree in
      IsSaltedCommitment E (params_of (plain_of scheme) (shape batch)) cap batch (layers_of tree) (matrices_of tree)

  -- an opening of such a tree has the rows and the salts of its index, and the siblings that the tree's layers have; of
  -- an own tree these are honest, and if the tree is the scheme's commitment, it is accepted
  pub record OpensSalted (scheme : HidingScheme P PW H C R X G N D E V W p pd pe q qd qe h c)
      (tree : Tree V (List W) Z (HorizontalPair V A B a b) N m) (o : SaltedOpening V W) : Type 0 where
    pub rows : o.rows ≡ honest_rows (left_batch N (matrices_of tree)) o.index
    pub salts : o.salts ≡ honest_rows (right_batch N (matrices_of tree)) o.index
    pub siblings : let s = shape (tree_batch tree) in
        o.siblings ≡ siblings_by (node_in [] (layers_of tree)) s (cap_layer_of (plain_of scheme) s) o.index
    pub is_honest : let batch = tree_batch tree in let k = params_of (plain_of scheme) (shape batch) in
        IsOwn k batch (layers_of tree) → o.siblings ≡ (honest k.functions batch k.layer o.index).siblings
    pub is_accepted : (cap : List (List W)) → CommitsSalted scheme cap tree →
        let dimensions = unsalted_dimensions N (matrices_of tree) in
        IsSaltedAccepted E dimensions (salted_params_of scheme dimensions) cap o

  -- the same of several indices: it has the digests of the boundary
  pub record OpensSaltedPruned (scheme : HidingScheme P PW H C R X G N D E V W p pd pe q qd qe h c)
      (tree : Tree V (List W) Z (HorizontalPair V A B a b) N m) (o : SaltedPruned V W) : Type 0 where
    pub rows : o.rows ≡ map (honest_rows (left_batch N (matrices_of tree))) o.indices
    pub salts : o.salts ≡ map (honest_rows (right_batch N (matrices_of tree))) o.indices
    pub digests : let s = shape (tree_batch tree) in
        o.digests ≡ boundary_by (node_in [] (layers_of tree)) s o.indices (cap_layer_of (plain_of scheme) s)
    pub is_honest : let batch = tree_batch tree in let k = params_of (plain_of scheme) (shape batch) in
        IsOwn k batch (layers_of tree) → o.digests ≡ (honest_query k.functions batch k.layer o.indices).digests
    pub is_accepted : (cap : List (List W)) → CommitsSalted scheme cap tree →
        let dimensions = unsalted_dimensions N (matrices_of tree) in
        IsSaltedPrunedAccepted E dimensions (salted_params_of scheme dimensions) cap o
