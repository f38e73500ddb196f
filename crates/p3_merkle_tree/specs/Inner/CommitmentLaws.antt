-- What follows of what a scheme commits to, and of what it shows.
use Rattle.std.specs.Prelude.{◌≡◌, ℕ, suc, ◌<◌, List, [], ◌∷◌, length, map, slice_index, slice_index_or, All}
use Rattle.std.specs.List.{AllZip}
use Rattle.std.proofs.Common.{◌∙◌, ap, arith, refl, subst, sym}
use Rattle.std.proofs.Math.Nat.{div-one}
use Rattle.std.proofs.lemmas.Bool.{lt-ltb}
use Rattle.std.proofs.lemmas.List.{get_or_default}
use Rattle.p3_merkle_core.specs.Geometry.{IsLawful, Shape, bits_reduced, shape_of, halved_index}
use Rattle.p3_merkle_core.specs.Commitments.{HaveProof}
use Rattle.p3_merkle_core.specs.Views.{batch_of, heights_in, matrix_of}
use Rattle.p3_merkle_core.specs.Nodes.{Functions}
use Rattle.p3_merkle_core.specs.Openings.{honest_rows}
use Rattle.p3_merkle_core.specs.Pruning.{PrunedOpening, restored_path, IsPrunedAccepted}
use Rattle.p3_merkle_core.specs.Caps.{cap_layer}
use Rattle.p3_merkle_core.specs.Checks.{Params, params}
use Rattle.p3_merkle_prover.proofs.RowFacts.{row_inside}
use Rattle.p3_support.specs.Batches.{FitDimensions, rows_in, greatest}
use Rattle.p3_support.specs.Relations.{IsEquivalence}
use Rattle.p3_support.specs.declared.matrix.Dimensions.{Dimensions}
use Rattle.p3_support.specs.declared.compress.PseudoCompressionFunction as compressor
use Rattle.p3_support.specs.declared.hasher.CryptographicHasher as hasher
use Rattle.p3_support.specs.declared.packed.PackedValue as packed
use Rattle.std.specs.declared.default.Default as default
use Rattle.std.specs.declared.cmp.PartialEq as equality
use Rattle.p3_merkle_tree.specs.Schemes.{functions_of, params_of, IsSameScheme}
use Rattle.p3_merkle_tree.specs.declared.mmcs.Scheme.{Scheme}

-- ---- the same scheme

module _ {P PW H C X G V W : Type 0} {N D : ℕ} {p : packed.Ghosts P V} {pd : default.Ghosts V} {pe : equality.Ghosts V}
    {q : packed.Ghosts PW W} {qd : default.Ghosts W} {qe : equality.Ghosts W} {h : hasher.Ghosts H P PW D V W}
    {c : compressor.Ghosts C PW N D W} where
  -- being the same scheme is an equivalence
  pub same_is_equivalence : IsEquivalence {A = Scheme P PW H C X G N D V W p pd pe q qd qe h c} IsSameScheme
  same_is_equivalence =
      record {
        reflexive = λ s. record { same_hash = refl; same_compression = refl; same_cap_height = refl; same_rule = refl };
        symmetric = λ s t w. record {
          same_hash = sym w.same_hash;
          same_compression = sym w.same_compression;
          same_cap_height = sym w.same_cap_height;
          same_rule = sym w.same_rule;
        };
        transitive = λ s t u v w.
            record {
              same_hash = v.same_hash ∙ w.same_hash;
              same_compression = v.same_compression ∙ w.same_compression;
              same_cap_height = v.same_cap_height ∙ w.same_cap_height;
              same_rule = v.same_rule ∙ w.same_rule;
            };
      }

  -- what holds under the parameters of a scheme holds under those of the same scheme
  pub at_same : (sh : Shape) (s t : Scheme P PW H C X G N D V W p pd pe q qd qe h c) (fact : Params V W → Type 0) →
      IsSameScheme s t → fact (params_of s sh) → fact (params_of t sh)
  at_same sh s t fact w holds = subst fact (λ i. params (record {
    hash = h.hash (w.same_hash i);
    compression = c.compression (w.same_compression i);
    default_digest = (functions_of s).default_digest;
  }) sh (cap_layer sh (w.same_rule i) (w.same_cap_height i))) holds

-- ---- what is shown

-- what holds at each place holds of each pair
pub all_zip : {A B : Type 0} (holds : A → B → Type 0) (xs : List A) (ys : List B) (a : A) (b : B) → length ys
    ≡ length xs →
    ((k : ℕ) → k < length xs → holds (slice_index_or xs k a) (slice_index_or ys k b)) → AllZip holds xs ys
all_zip holds [] [] a b same at = tt
all_zip holds [] (y ∷ ys) a b same at = absurd (omega (arith, same))
all_zip holds (x ∷ xs) [] a b same at = absurd (omega (arith, same))
all_zip holds (x ∷ xs) (y ∷ ys) a b same at =
    (at 0 (omega arith), all_zip holds xs ys a b (omega (arith, same)) (λ k inside. at (suc k) (omega arith)))

-- of an accepted pruned opening each row set is shown to be that of its index
pub each_shown : {T W : Type 0} (c : Params T W) (cap : List (List W)) (o : PrunedOpening T W) →
    IsPrunedAccepted c cap o → AllZip (HaveProof c cap) o.indices o.rows
each_shown c cap o a = all_zip (HaveProof c cap) o.indices o.rows 0 [] a.restorable.agreed.in_pairs
    (λ k inside. record {
      siblings = restored_path c o (slice_index o.indices k);
      is_accepted = a.each_accepted k inside;
    })

-- rows that are shown fit the dimensions
pub shown_rows_fit : {T W : Type 0} (f : Functions T W) (n t : ℕ) (ds : List Dimensions) (cap : List (List W))
    (index : ℕ) (rows : List (List T)) → HaveProof (params f (shape_of n ds) t) cap index rows →
    FitDimensions ds index rows
shown_rows_fit f n t ds cap index rows proof =
    record { rows_fit = proof.is_accepted.rows_fit; in_range = proof.is_accepted.in_range }

-- ---- the rows that belong to an index

-- none is halved of the tallest
pub tallest_at_index : (height index : ℕ) → halved_index height height index ≡ index
tallest_at_index height index =
    let none : bits_reduced height height ≡ 0 = omega arith in
    rw none (div-one index)

module _ {T M : Type 0} (height width : M → ℕ) (row : M → ℕ → List T) (n : ℕ) where
  -- the greatest height is that of the heights
  pub greatest_is : (ms : List M) → greatest (map height ms) ≡ greatest (heights_in height width row ms)
  greatest_is [] = refl
  greatest_is (m ∷ ms) = rw (greatest_is ms) refl

  -- of matrices beside a tallest one, the rows of a batch are those of the matrices
  rows_beside : (tall index : ℕ) (ms : List M) → All (λ m. halved_index tall (height m) index < height m) ms →
      map (λ m. m.row (halved_index tall m.height index)) (map (matrix_of height width row) ms)
      ≡ map (λ m. row m (halved_index tall (height m) index)) ms
  rows_beside tall index [] inside = refl
  rows_beside tall index (m ∷ ms) inside =
      let there = lt-ltb (halved_index tall (height m) index) (height m) (inside 0 m (omega arith)) in
      let rest = rows_beside tall index ms (λ k d h. inside (suc k) d (omega arith)) in
      rw there (ap (λ rows. row m (halved_index tall (height m) index) ∷ rows) rest)

  -- the honest rows are those that belong to the index
  pub rows_are : (ms : List M) (index : ℕ) → IsLawful (heights_in height width row ms) →
      index < greatest (heights_in height width row ms) →
      honest_rows (batch_of height width row n ms) index
      ≡ rows_in height row halved_index (greatest (map height ms)) ms index
  rows_are ms index w below =
      rows_beside (greatest (heights_in height width row ms)) index ms
      (λ k d inside.
      let m = slice_index_or ms k d in
      row_inside height width row n ms k index m w below inside (get_or_default ms k d m inside))
      ∙ ap (λ (tall : ℕ). map (λ m. row m (halved_index tall (height m) index)) ms) (sym (greatest_is ms))

  -- and so are those of several
  pub sets_are : (ms : List M) (indices : List ℕ) → IsLawful (heights_in height width row ms) →
      All (λ index. index < greatest (heights_in height width row ms)) indices →
      map (honest_rows (batch_of height width row n ms)) indices
      ≡ map (rows_in height row halved_index (greatest (map height ms)) ms) indices
  sets_are ms [] w below = refl
  sets_are ms (index ∷ indices) w below =
      let first = rows_are ms index w (below 0 index (omega arith)) in
      let rest = sets_are ms indices w (λ k d h. below (suc k) d (omega arith)) in
      λ i. first i ∷ rest i

  -- each matrix has the row that belongs to an index
  pub row_in_matrix : (ms : List M) → IsLawful (heights_in height width row ms) →
      All (λ m. (index : ℕ) → index < greatest (map height ms) →
      halved_index (greatest (map height ms)) (height m) index < height m) ms
  row_in_matrix ms w = λ k d inside index below.
      let m = slice_index_or ms k d in
      let inner : halved_index (greatest (heights_in height width row ms)) (height m) index < height m =
      row_inside height width row n ms k index m w (rw (greatest_is ms) at below) inside
      (get_or_default ms k d m inside) in
      rw (greatest_is ms) inner
