-- What follows from what a salted scheme commits to, and from what it shows.
use Rattle.std.specs.Prelude.{◌≡◌, ℕ, zero, suc, ◌<◌, List, [], ◌∷◌, length, map, slice_index, slice_index_or, zip}
use Rattle.std.specs.List.{AllZip}
use Rattle.std.proofs.{Common.◌∙◌, Common.ap, Common.arith, Common.refl, Common.subst, Common.sym}
use Rattle.std.proofs.lemmas.List.Elements.{AllZip-get_or}
use Rattle.p3_support.specs.Batches.{FitDimensions, heights_of, greatest}
use Rattle.p3_support.specs.Relations.{IsEquivalence}
use Rattle.p3_support.specs.Pairs.{left_of}
use Rattle.p3_support.specs.declared.matrix.Dimensions.{Dimensions}
use Rattle.p3_support.specs.declared.matrix.Matrix.{Ghosts}
use Rattle.p3_support.specs.declared.pair.HorizontalPair.{HorizontalPair}
use Rattle.p3_merkle_tree.specs.Schemes.{IsSameScheme}
use Rattle.p3_merkle_core.specs.Views.{heights_in}
use Rattle.p3_merkle_core.specs.Geometry.{IsLawful, shape_of}
use Rattle.p3_merkle_core.specs.Nodes.{Functions, dimensions_of}
use Rattle.p3_merkle_core.specs.Openings.{opening_of}
use Rattle.p3_merkle_core.specs.Checks.{IsAccepted, Params, params}
use Rattle.p3_merkle_core.specs.Pruning.{restored_path}
use Rattle.p3_support.specs.declared.compress.PseudoCompressionFunction as compressor
use Rattle.p3_support.specs.declared.hasher.CryptographicHasher as hasher
use Rattle.p3_support.specs.declared.packed.PackedValue as packed
use Rattle.std.specs.declared.default.Default as default
use Rattle.std.specs.declared.cmp.PartialEq as equality
use Rattle.p3_support.specs.Batches.{widened}
use Rattle.p3_merkle_tree.specs.Inner.CommitmentLaws.{all_zip, greatest_is, same_is_equivalence}
use Rattle.p3_merkle_tree.specs.HidingSchemes.{plain_of}
use Rattle.p3_merkle_tree.specs.SaltedCommitments.{HaveSaltedProof}
use Rattle.p3_merkle_tree.specs.SaltedOpenings.{HaveSalts, IsSaltedPrunedAccepted, SaltedPruned, joined_sets}
use Rattle.p3_merkle_tree.specs.SaltedOpenings.{salted_rows}
use Rattle.p3_merkle_tree.specs.Inner.SaltedParts.{pair_matrix}
use Rattle.p3_merkle_tree.specs.declared.hiding_mmcs.HidingScheme.{HidingScheme}

module _ {P PW H C R X G V W : Type 0} {N D E : ℕ} {p : packed.Ghosts P V} {pd : default.Ghosts V}
    {pe : equality.Ghosts V} {q : packed.Ghosts PW W} {qd : default.Ghosts W} {qe : equality.Ghosts W}
    {h : hasher.Ghosts H P PW D V W} {c : compressor.Ghosts C PW N D W} where
  -- having one plain scheme is an equivalence
  pub same_plain_is_equivalence : IsEquivalence {A = HidingScheme P PW H C R X G N D E V W p pd pe q qd qe h c}
      (λ s t. IsSameScheme (plain_of s) (plain_of t))
  same_plain_is_equivalence =
      record {
        reflexive = λ s. same_is_equivalence.reflexive (plain_of s);
        symmetric = λ s t w. same_is_equivalence.symmetric (plain_of s) (plain_of t) w;
        transitive = λ s t u v w. same_is_equivalence.transitive (plain_of s) (plain_of t) (plain_of u) v w;
      }

-- ---- the matrices of pairs

module _ {T A B : Type 0} {a : Ghosts A T} {b : Ghosts B T} where
  -- pairs have the heights of their left matrices
  pub left_heights : (pairs : List (HorizontalPair T A B a b)) → heights_of (dimensions_of (map pair_matrix pairs))
      ≡ heights_in a.height_of a.width_of a.row_of (map left_of pairs)
  left_heights [] = refl
  left_heights (p ∷ pairs) = ap (λ (hs : List ℕ). a.height_of (left_of p) ∷ hs) (left_heights pairs)

  -- if the heights of pairs are lawful, so are those of their left matrices
  pub left_lawful : (pairs : List (HorizontalPair T A B a b)) →
      IsLawful (heights_of (dimensions_of (map pair_matrix pairs))) →
      IsLawful (heights_in a.height_of a.width_of a.row_of (map left_of pairs))
  left_lawful pairs w = subst IsLawful (left_heights pairs) w

  -- and the greatest of them is the tallest of the pairs
  pub left_greatest : (pairs : List (HorizontalPair T A B a b)) → greatest (map a.height_of (map left_of pairs))
      ≡ greatest (heights_of (dimensions_of (map pair_matrix pairs)))
  left_greatest pairs = greatest_is a.height_of a.width_of a.row_of 0 (map left_of pairs)
      ∙ ap greatest (sym (left_heights pairs))

-- ---- what is shown

module _ {A B C : Type 0} (join : A × B → C) where
  -- there are as many pairs as items
  pub length_pairs : (xs : List A) (ys : List B) → length ys ≡ length xs → length (map join (zip xs ys)) ≡ length xs
  length_pairs [] ys same = refl
  length_pairs (x ∷ xs) [] same = absurd (omega (arith, same))
  length_pairs (x ∷ xs) (y ∷ ys) same = ap suc (length_pairs xs ys (omega (arith, same)))

  -- each pair has the items of its place
  pub pair_at : (xs : List A) (ys : List B) (k : ℕ) (a : A) (b : B) → length ys ≡ length xs →
      slice_index_or (map join (zip xs ys)) k (join (a, b)) ≡ join (slice_index_or xs k a, slice_index_or ys k b)
  pair_at [] [] k a b same = refl
  pair_at [] (y ∷ ys) k a b same = absurd (omega (arith, same))
  pair_at (x ∷ xs) [] k a b same = absurd (omega (arith, same))
  pair_at (x ∷ xs) (y ∷ ys) zero a b same = refl
  pair_at (x ∷ xs) (y ∷ ys) (suc k) a b same = pair_at xs ys k a b (omega (arith, same))

-- in an accepted pruned opening each row set is shown to be that of its index
pub each_salted_shown : {T W : Type 0} (e : ℕ) (ds : List Dimensions) (c : Params T W) (cap : List (List W))
    (o : SaltedPruned T W) → IsSaltedPrunedAccepted e ds c cap o → AllZip (HaveSaltedProof e ds c cap) o.indices o.rows
each_salted_shown {T} {W} e ds c cap o w =
    let as_many : length o.rows ≡ length o.indices =
    sym (length_pairs (λ (rows, salts). salted_rows rows salts) o.rows o.salts w.in_pairs)
    ∙ w.accepted.restorable.agreed.in_pairs in
    all_zip (HaveSaltedProof e ds c cap) o.indices o.rows 0 [] as_many (λ k inside.
    let i = slice_index o.indices k in
    let path = restored_path c (joined_sets o) i in
    let here = subst (λ (rows : List (List T)). IsAccepted c cap (opening_of i rows path))
    (pair_at (λ (rows, salts). salted_rows rows salts) o.rows o.salts k [] [] w.in_pairs)
    (w.accepted.each_accepted k inside) in
    record {
      salts = slice_index_or o.salts k [];
      siblings = path;
      is_accepted = record {
        salted = AllZip-get_or (HaveSalts ds) o.rows o.salts k [] [] w.salted (omega (arith, as_many));
        can_widen = w.can_widen;
        accepted = here;
      };
    })

-- adding columns does not change the heights
pub wide_heights : (e : ℕ) (ds : List Dimensions) → heights_of (widened e ds) ≡ heights_of ds
wide_heights e [] = refl
wide_heights e (d ∷ ds) = ap (λ (hs : List ℕ). d.height ∷ hs) (wide_heights e ds)

-- rows that are shown fit the dimensions, which are those of the matrices without salts
pub salted_rows_fit : {T W : Type 0} (f : Functions T W) (n e t : ℕ) (ds : List Dimensions) (cap : List (List W))
    (index : ℕ) (rows : List (List T)) → HaveSaltedProof e ds (params f (shape_of n (widened e ds)) t) cap index rows →
    FitDimensions ds index rows
salted_rows_fit f n e t ds cap index rows proof =
    let w = proof.is_accepted in
    let tall : greatest (heights_of (widened e ds)) ≡ greatest (heights_of ds) = ap greatest (wide_heights e ds) in
    record { rows_fit = w.salted.rows_fit; in_range = subst (λ height. index < height) tall w.accepted.in_range }
