-- An opening that is honest, and accepted under the cap of its tree.
use Rattle.std.specs.Prelude.{◌≡◌, ℕ, List, map}
use Rattle.std.specs.declared.default.Default as default
use Rattle.std.specs.declared.cmp.PartialEq as equality
use Rattle.p3_support.specs.declared.compress.PseudoCompressionFunction as compressor
use Rattle.p3_support.specs.declared.hasher.CryptographicHasher as hasher
use Rattle.p3_support.specs.declared.matrix.Matrix.{Ghosts}
use Rattle.p3_support.specs.declared.pair.HorizontalPair.{HorizontalPair}
use Rattle.p3_support.specs.declared.packed.PackedValue as packed
use Rattle.p3_merkle_tree.specs.Checks.{IsAccepted}
use Rattle.p3_merkle_tree.specs.declared.hiding_mmcs.HidingScheme.{HidingScheme}
use Rattle.p3_merkle_tree.specs.HidingSchemes.{plain_of, salted_params_of}
use Rattle.p3_merkle_tree.specs.Nodes.{shape}
use Rattle.p3_merkle_tree.specs.Openings.{Opening, honest, honest_rows}
use Rattle.p3_merkle_tree.specs.Parts.{matrices_of, tree_batch}
use Rattle.p3_merkle_tree.specs.Pruning.{IsPrunedAccepted, PrunedOpening, honest_query}
use Rattle.p3_merkle_tree.specs.SaltedOpenings.{IsSaltedAccepted, IsSaltedPrunedAccepted, SaltedOpening, SaltedPruned}
use Rattle.p3_merkle_tree.specs.SaltedTrees.{left_batch, right_batch, unsalted_dimensions}
use Rattle.p3_merkle_tree.specs.declared.mmcs.Scheme.{Scheme}
use Rattle.p3_merkle_tree.specs.Schemes.{params_of}
use Rattle.p3_merkle_tree.specs.Tree.{Tree}

module _ {P PW H C X G V W : Type 0} {N D : ℕ} {p : packed.Ghosts P V} {pd : default.Ghosts V} {pe : equality.Ghosts V}
    {q : packed.Ghosts PW W} {qd : default.Ghosts W} {qe : equality.Ghosts W} {h : hasher.Ghosts H P PW D V W}
    {c : compressor.Ghosts C PW N D W} {M Z : Type 0} {m : Ghosts M V}
    (scheme : Scheme P PW H C X G N D V W p pd pe q qd qe h c) (tree : Tree V (List W) Z M N m)
    (cap : List (List W)) where
  -- of one index
  pub record IsHonest (o : Opening V W) : Type 0 where
    pub opened : let b = tree_batch tree in let k = params_of scheme (shape b) in
        o ≡ honest k.functions b k.layer o.index
    pub accepted : IsAccepted (params_of scheme (shape (tree_batch tree))) cap o

  -- of several indices
  pub record IsHonestPruned (o : PrunedOpening V W) : Type 0 where
    pub opened : let b = tree_batch tree in let k = params_of scheme (shape b) in
        o ≡ honest_query k.functions b k.layer o.indices
    pub accepted : IsPrunedAccepted (params_of scheme (shape (tree_batch tree))) cap o

module _ {P PW H C X G V W : Type 0} {N D : ℕ} {p : packed.Ghosts P V} {pd : default.Ghosts V} {pe : equality.Ghosts V}
    {q : packed.Ghosts PW W} {qd : default.Ghosts W} {qe : equality.Ghosts W} {h : hasher.Ghosts H P PW D V W}
    {c : compressor.Ghosts C PW N D W} {A B R Z : Type 0} {E : ℕ} {a : Ghosts A V} {b : Ghosts B V}
    {m : Ghosts (HorizontalPair V A B a b) V} (scheme : HidingScheme P PW H C R X G N D E V W p pd pe q qd qe h c)
    (tree : Tree V (List W) Z (HorizontalPair V A B a b) N m) (cap : List (List W)) where
  -- of one index, with its salts
  pub record IsHonestSalted (o : SaltedOpening V W) : Type 0 where
    pub rows : o.rows ≡ honest_rows (left_batch N (matrices_of tree)) o.index
    pub salts : o.salts ≡ honest_rows (right_batch N (matrices_of tree)) o.index
    pub siblings : let batch = tree_batch tree in let k = params_of (plain_of scheme) (shape batch) in
        o.siblings ≡ (honest k.functions batch k.layer o.index).siblings
    pub accepted : let dimensions = unsalted_dimensions N (matrices_of tree) in
        IsSaltedAccepted E dimensions (salted_params_of scheme dimensions) cap o

  -- of several indices, with their salts
  pub record IsHonestSaltedPruned (o : SaltedPruned V W) : Type 0 where
    pub rows : o.rows ≡ map (honest_rows (left_batch N (matrices_of tree))) o.indices
    pub salts : o.salts ≡ map (honest_rows (right_batch N (matrices_of tree))) o.indices
    pub digests : let batch = tree_batch tree in let k = params_of (plain_of scheme) (shape batch) in
        o.digests ≡ (honest_query k.functions batch k.layer o.indices).digests
    pub accepted : let dimensions = unsalted_dimensions N (matrices_of tree) in
        IsSaltedPrunedAccepted E dimensions (salted_params_of scheme dimensions) cap o
