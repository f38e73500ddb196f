-- The fields of a salted scheme, the parameters of its checks, and openings with their salts as values of the code.
use Rattle.std.specs.Prelude.{ℕ, List}
use Rattle.std.specs.declared.vec.Vec.{Vec}
use Rattle.std.specs.declared.default.Default as default
use Rattle.std.specs.declared.cmp.PartialEq as equality
use Rattle.p3_support.specs.Batches.{widened}
use Rattle.p3_support.specs.declared.compress.PseudoCompressionFunction as compressor
use Rattle.p3_support.specs.declared.hasher.CryptographicHasher as hasher
use Rattle.p3_support.specs.declared.matrix.Dimensions.{Dimensions}
use Rattle.p3_support.specs.declared.opening.BatchOpening.{BatchOpening}
use Rattle.p3_support.specs.declared.opening.BatchOpeningRef.{BatchOpeningRef}
use Rattle.p3_support.specs.declared.opening.MerkleCap.{MerkleCap}
use Rattle.p3_support.specs.Shown.{roots_of, row_lists, row_sets}
use Rattle.p3_support.specs.declared.packed.PackedValue as packed
use Rattle.p3_merkle_core.specs.Checks.{Params}
use Rattle.p3_merkle_core.specs.Geometry.{shape_of}
use Rattle.p3_merkle_core.specs.Presented.{Presented}
use Rattle.p3_merkle_core.specs.declared.pruning.PrunedProof.{PrunedProof}
use Rattle.p3_merkle_tree.specs.Schemes.{params_of}
use Rattle.p3_merkle_tree.specs.declared.mmcs.Scheme.{Scheme}
use Rattle.p3_merkle_tree.specs.SaltedOpenings.{SaltedOpening, SaltedPruned}
use Rattle.p3_merkle_tree.specs.SaltedPresented.{presented_salted, presented_salted_pruned}
use Rattle.p3_merkle_tree.specs.SaltedPresented.{presented_salted_to_restore}
use Rattle.p3_merkle_tree.specs.declared.hiding_mmcs.HidingScheme.{HidingScheme}

-- a borrowed opening of an index, with its salts
abbrev pub salted_borrowed : {T W A B D : Type 0} → ℕ → BatchOpeningRef T (Vec (Vec T A) B × Vec (List W) D) →
    SaltedOpening T W
salted_borrowed index opening =
    record {
      index = index;
      rows = row_lists opening.opened_values.now;
      salts = row_lists opening.opening_proof.now.0.items;
      siblings = opening.opening_proof.now.1.items;
    }

-- an owned opening of an index, with its salts
abbrev pub salted_owned : {T W A B D : Type 0} → ℕ → BatchOpening T (Vec (Vec T A) B × Vec (List W) D) →
    SaltedOpening T W
salted_owned index opening =
    record {
      index = index;
      rows = row_lists opening.opened_values.items;
      salts = row_lists opening.opening_proof.0.items;
      siblings = opening.opening_proof.1.items;
    }

-- the opening of several indices by borrowed row sets and a borrowed proof
abbrev pub salted_pruned_borrowed : {T W A B C D E : Type 0} → List ℕ → List (Vec (Vec T A) B) →
    Vec (Vec (Vec T C) D) E × PrunedProof (List W) → SaltedPruned T W
salted_pruned_borrowed indices rows proof =
    record {
      indices = indices;
      rows = row_sets rows;
      salts = row_sets proof.0.items;
      digests = proof.1.sibling_hashes.items;
    }

-- an owned opening of several indices
abbrev pub salted_pruned_owned : {T W A B C D E F : Type 0} → List ℕ →
    Vec (Vec (Vec T A) B) F × (Vec (Vec (Vec T C) D) E × PrunedProof (List W)) → SaltedPruned T W
salted_pruned_owned indices opening =
    record {
      indices = indices;
      rows = row_sets opening.0.items;
      salts = row_sets opening.1.0.items;
      digests = opening.1.1.sibling_hashes.items;
    }

module _ {P PW H C R X G V W : Type 0} {N D E : ℕ} {p : packed.Ghosts P V} {pd : default.Ghosts V}
    {pe : equality.Ghosts V} {q : packed.Ghosts PW W} {qd : default.Ghosts W} {qe : equality.Ghosts W}
    {h : hasher.Ghosts H P PW D V W} {c : compressor.Ghosts C PW N D W} where
  -- the plain scheme that commits to rows followed by their salts
  abbrev pub plain_of : HidingScheme P PW H C R X G N D E V W p pd pe q qd qe h c →
      Scheme P PW H C X G N D V W p pd pe q qd qe h c
  plain_of scheme = scheme.plain

  -- the generator that salts are drawn from
  abbrev pub generator_of : HidingScheme P PW H C R X G N D E V W p pd pe q qd qe h c → R
  generator_of scheme = scheme.generator

  -- the parameters of its checks over matrices of these dimensions without salts
  abbrev pub salted_params_of : HidingScheme P PW H C R X G N D E V W p pd pe q qd qe h c → List Dimensions → Params V W
  salted_params_of scheme dimensions = params_of scheme.plain (shape_of N (widened E dimensions))

  -- an opening of an index with its salts, under the roots of a cap over matrices of these dimensions without salts
  abbrev pub presented_under : HidingScheme P PW H C R X G N D E V W p pd pe q qd qe h c → List Dimensions →
      List (List W) → SaltedOpening V W → Presented V W
  presented_under scheme dimensions roots opening =
      presented_salted qe.eq E dimensions (salted_params_of scheme dimensions) roots opening

  -- a borrowed opening of an index, under such a cap
  abbrev pub presented_one : {A B F : Type 0} → HidingScheme P PW H C R X G N D E V W p pd pe q qd qe h c →
      List Dimensions → MerkleCap V (List W) → ℕ → BatchOpeningRef V (Vec (Vec V A) B × Vec (List W) F) → Presented V W
  presented_one scheme dimensions cap index opening =
      presented_under scheme dimensions (roots_of cap) (salted_borrowed index opening)

  -- an opening of some indices, by row sets and a proof with their salts, under such a cap
  abbrev pub presented_all : {A B F S U : Type 0} → HidingScheme P PW H C R X G N D E V W p pd pe q qd qe h c →
      List Dimensions → MerkleCap V (List W) → List ℕ → List (Vec (Vec V A) B) →
      Vec (Vec (Vec V F) S) U × PrunedProof (List W) → Presented V W
  presented_all scheme dimensions cap indices rows proof =
      presented_salted_pruned pe.eq qe.eq E dimensions (salted_params_of scheme dimensions) (roots_of cap)
      (salted_pruned_borrowed indices rows proof)

  -- the paths of such indices, restored whatever the cap
  abbrev pub presented_to_restore : {A B F S U : Type 0} → HidingScheme P PW H C R X G N D E V W p pd pe q qd qe h c →
      List Dimensions → List ℕ → List (Vec (Vec V A) B) → Vec (Vec (Vec V F) S) U × PrunedProof (List W) →
      Presented V W
  presented_to_restore scheme dimensions indices rows proof =
      let k = salted_params_of scheme dimensions in
      presented_salted_to_restore pe.eq E dimensions k.shape k.layer (salted_pruned_borrowed indices rows proof)
