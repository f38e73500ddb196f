-- What a scheme commits to, what it opens of a tree, and what is presented to it.
use Rattle.std.specs.Prelude.{ℕ, List}
use Rattle.std.specs.declared.vec.Vec.{Vec}
use Rattle.std.specs.declared.default.Default as default
use Rattle.std.specs.declared.cmp.PartialEq as equality
use Rattle.p3_support.specs.declared.compress.PseudoCompressionFunction as compressor
use Rattle.p3_support.specs.declared.hasher.CryptographicHasher as hasher
use Rattle.p3_support.specs.declared.matrix.Dimensions.{Dimensions}
use Rattle.p3_support.specs.declared.opening.BatchOpeningRef.{BatchOpeningRef}
use Rattle.p3_support.specs.declared.opening.MerkleCap.{MerkleCap}
use Rattle.p3_support.specs.Shown.{roots_of}
use Rattle.p3_support.specs.declared.matrix.Matrix as matrix
use Rattle.p3_support.specs.declared.packed.PackedValue as packed
use Rattle.p3_merkle_core.specs.Commitments.{IsCommitment}
use Rattle.p3_merkle_core.specs.Geometry.{shape_of}
use Rattle.p3_merkle_core.specs.Nodes.{shape}
use Rattle.p3_merkle_core.specs.Opened.{IsOpened, IsPrunedOpened}
use Rattle.p3_merkle_core.specs.Openings.{Opening}
use Rattle.p3_merkle_core.specs.Presented.{Presented, presented, presented_pruned}
use Rattle.p3_merkle_core.specs.Pruning.{PrunedOpening}
use Rattle.p3_merkle_core.specs.Views.{opening_borrowed, pruned_borrowed}
use Rattle.p3_merkle_core.specs.declared.pruning.PrunedProof.{PrunedProof}
use Rattle.p3_merkle_prover.specs.Parts.{layers_of, tree_batch}
use Rattle.p3_merkle_prover.specs.declared.tree.Tree.{Tree}
use Rattle.p3_merkle_tree.specs.Schemes.{params_of}
use Rattle.p3_merkle_tree.specs.declared.mmcs.Scheme.{Scheme}

module _ {P PW H C X G V W : Type 0} {N D : ℕ} {p : packed.Ghosts P V} {pd : default.Ghosts V} {pe : equality.Ghosts V}
    {q : packed.Ghosts PW W} {qd : default.Ghosts W} {qe : equality.Ghosts W} {h : hasher.Ghosts H P PW D V W}
    {c : compressor.Ghosts C PW N D W} {M B : Type 0} {m : matrix.Ghosts M V} where
  -- a tree is built with the scheme's functions, and this is its cap
  abbrev pub Commits : Scheme P PW H C X G N D V W p pd pe q qd qe h c → List (List W) → Tree V (List W) B M N m →
      Type 0
  Commits scheme cap tree = let b = tree_batch tree in IsCommitment (params_of scheme (shape b)) cap b (layers_of tree)

  -- an opening of a tree, up to the scheme's cap
  abbrev pub Opens : Scheme P PW H C X G N D V W p pd pe q qd qe h c → Tree V (List W) B M N m → Opening V W → Type 0
  Opens scheme tree o = let b = tree_batch tree in IsOpened (params_of scheme (shape b)) b (layers_of tree) o

  -- a pruned opening of a tree, up to the scheme's cap
  abbrev pub OpensPruned : Scheme P PW H C X G N D V W p pd pe q qd qe h c → Tree V (List W) B M N m →
      PrunedOpening V W → Type 0
  OpensPruned scheme tree o =
      let b = tree_batch tree in IsPrunedOpened (params_of scheme (shape b)) b (layers_of tree) o

module _ {P PW H C X G V W : Type 0} {N D : ℕ} {p : packed.Ghosts P V} {pd : default.Ghosts V} {pe : equality.Ghosts V}
    {q : packed.Ghosts PW W} {qd : default.Ghosts W} {qe : equality.Ghosts W} {h : hasher.Ghosts H P PW D V W}
    {c : compressor.Ghosts C PW N D W} where
  -- an opening of an index, under the roots of a cap over matrices of these dimensions
  abbrev pub presented_under : Scheme P PW H C X G N D V W p pd pe q qd qe h c → List Dimensions → List (List W) →
      Opening V W → Presented V W
  presented_under scheme dimensions roots opening =
      presented qe.eq (params_of scheme (shape_of N dimensions)) roots opening

  -- a borrowed opening of an index, under such a cap
  abbrev pub presented_one : {A : Type 0} → Scheme P PW H C X G N D V W p pd pe q qd qe h c → List Dimensions →
      MerkleCap V (List W) → ℕ → BatchOpeningRef V (Vec (List W) A) → Presented V W
  presented_one scheme dimensions cap index opening =
      presented_under scheme dimensions (roots_of cap) (opening_borrowed index opening)

  -- a pruned opening of some indices, under the roots of such a cap
  abbrev pub presented_pruned_under : Scheme P PW H C X G N D V W p pd pe q qd qe h c → List Dimensions →
      List (List W) → PrunedOpening V W → Presented V W
  presented_pruned_under scheme dimensions roots opening =
      presented_pruned pe.eq qe.eq (params_of scheme (shape_of N dimensions)) roots opening

  -- the same of borrowed row sets and a borrowed proof
  abbrev pub presented_all : {A B : Type 0} → Scheme P PW H C X G N D V W p pd pe q qd qe h c → List Dimensions →
      MerkleCap V (List W) → List ℕ → List (Vec (Vec V A) B) → PrunedProof (List W) → Presented V W
  presented_all scheme dimensions cap indices rows proof =
      presented_pruned_under scheme dimensions (roots_of cap) (pruned_borrowed indices rows proof)
