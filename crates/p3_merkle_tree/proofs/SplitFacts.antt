-- Rows of pairs, taken apart where the left matrix ends.
use Rattle.std.proofs.Common.{◌≡◌, ℕ, zero, suc, ◌+◌, ◌/◌, ◌^◌, ◌<◌, cond, nat_lt, List, [], ◌∷◌, ◌++◌, map, refl, ap}
use Rattle.std.proofs.Common.{sym, subst, ◌∙◌, arith, length, get_or, All}
use Rattle.std.proofs.lemmas.Bool.{lt-ltb}
use Rattle.std.proofs.lemmas.List.{drop_at, get_or_default, length-map, take-append-drop, take_at}
use Rattle.std.proofs.lemmas.Simd.{map-map}
use Rattle.std.specs.List.{AllZip}
use Rattle.p3_support.specs.Batches.{widened, CanWiden}
use Rattle.p3_support.specs.declared.matrix.Matrix.{Ghosts}
use Rattle.p3_support.specs.declared.pair.HorizontalPair.{HorizontalPair}
use Rattle.p3_support.specs.Pairs.{left_of, pair_row, right_of}
use Rattle.p3_support.specs.Batches.{heights_of, greatest, widths_of}
use Rattle.p3_support.specs.declared.matrix.Dimensions.{Dimensions}
use Rattle.p3_merkle_core.specs.Views.{matrix_of}
use Rattle.p3_merkle_core.specs.Geometry.{IsLawful, bits_reduced, heights}
use Rattle.p3_merkle_core.specs.Nodes.{Batch, Matrix, dimensions_of, shape}
use Rattle.p3_merkle_core.specs.Pruning.{pruned_of, IsPrunedAccepted}
use Rattle.p3_merkle_core.specs.Openings.{honest_rows, opening_of}
use Rattle.p3_merkle_core.specs.Checks.{IsAccepted, Params}
use Rattle.p3_merkle_prover.proofs.RowFacts.{row_inside}
use Rattle.p3_merkle_tree.specs.SaltedOpenings.{HaveSalts, IsSaltedAccepted, IsSaltedPrunedAccepted}
use Rattle.p3_merkle_tree.specs.SaltedOpenings.{SaltedOpening, SaltedPruned, salted_rows, salted_sets}
use Rattle.p3_merkle_tree.specs.Inner.SaltedParts.{salt_parts, unsalted_parts, pair_matrix}
use Rattle.p3_merkle_tree.specs.SaltedTrees.{HaveSaltColumns, left_batch, right_batch, unsalted_dimensions}

-- ---- rows that are taken apart

module _ {X T : Type 0} (left right : X → List T) (width : X → ℕ) where
  -- what stands before are the left rows
  pub left_parts : (xs : List X) → All (λ x. length (left x) ≡ width x) xs →
      unsalted_parts (map width xs) (map (λ x. left x ++ right x) xs) ≡ map left xs
  left_parts [] full = refl
  left_parts (x ∷ xs) full =
      let front = take_at (left x) (right x) (width x) (full 0 x (omega arith)) in
      rw (front, left_parts xs (λ k d h. full (suc k) d (omega arith))) refl

  -- and what stands after are the right ones
  pub right_parts : (xs : List X) → All (λ x. length (left x) ≡ width x) xs →
      salt_parts (map width xs) (map (λ x. left x ++ right x) xs) ≡ map right xs
  right_parts [] full = refl
  right_parts (x ∷ xs) full =
      let back = drop_at (left x) (right x) (width x) (full 0 x (omega arith)) in
      rw (back, right_parts xs (λ k d h. full (suc k) d (omega arith))) refl

-- both parts together are the rows
pub parts_joined : {T : Type 0} (widths : List ℕ) (rows : List (List T)) → length widths ≡ length rows →
    salted_rows (unsalted_parts widths rows) (salt_parts widths rows) ≡ rows
parts_joined [] [] same = refl
parts_joined [] (row ∷ rows) same = absurd (omega (arith, same))
parts_joined (w ∷ widths) [] same = absurd (omega (arith, same))
parts_joined (w ∷ widths) (row ∷ rows) same =
    rw (take-append-drop w row, parts_joined widths rows (omega (arith, same))) refl

-- ---- the rows that belong to an index

module _ {X T : Type 0} (side : X → Matrix T) (height : X → ℕ) (same : (x : X) → (side x).height ≡ height x) where
  heights_are : (xs : List X) → heights_of (dimensions_of (map side xs)) ≡ map height xs
  heights_are [] = refl
  heights_are (x ∷ xs) = rw (same x, heights_are xs) refl

  rows_at : (tall i : ℕ) (xs : List X) → map (λ m. m.row (i / 2 ^ bits_reduced tall m.height)) (map side xs)
      ≡ map (λ x. (side x).row (i / 2 ^ bits_reduced tall (height x))) xs
  rows_at tall i [] = refl
  rows_at tall i (x ∷ xs) = rw (same x, rows_at tall i xs) refl

  -- of matrices of these heights, each has the row that its height gives
  pub side_rows : (n i : ℕ) (xs : List X) → honest_rows (record { arity = n; matrices = map side xs }) i
      ≡ map (λ x. (side x).row (i / 2 ^ bits_reduced (greatest (map height xs)) (height x))) xs
  side_rows n i xs =
      ap (λ (hs : List ℕ). map (λ (m : Matrix T). m.row (i / 2 ^ bits_reduced (greatest hs) m.height)) (map side xs))
      (heights_are xs) ∙ rows_at (greatest (map height xs)) i xs

-- rows below the heights are the matrices' own
rows_kept : {X T : Type 0} (at height : X → ℕ) (row : X → List T) (xs : List X) → All (λ x. at x < height x) xs →
    map (λ x. cond (nat_lt (at x) (height x)) (row x) []) xs ≡ map row xs
rows_kept at height row [] inside = refl
rows_kept at height row (x ∷ xs) inside =
    let there = lt-ltb (at x) (height x) (inside 0 x (omega arith)) in
    rw (there, rows_kept at height row xs (λ k d h. inside (suc k) d (omega arith))) refl

module _ {T A B : Type 0} {a : Ghosts A T} {b : Ghosts B T} where
  -- the left matrix of a pair, and the right one
  abbrev left_matrix : HorizontalPair T A B a b → Matrix T
  left_matrix p = matrix_of a.height_of a.width_of a.row_of (left_of p)

  abbrev right_matrix : HorizontalPair T A B a b → Matrix T
  right_matrix p = matrix_of b.height_of b.width_of b.row_of (right_of p)

  abbrev height_in : HorizontalPair T A B a b → ℕ
  height_in p = a.height_of (left_of p)

  abbrev width_in : HorizontalPair T A B a b → ℕ
  width_in p = a.width_of (left_of p)

  -- pairs, seen as matrices
  abbrev pub pair_batch : ℕ → List (HorizontalPair T A B a b) → Batch T
  pair_batch n pairs = record { arity = n; matrices = map pair_matrix pairs }

  -- with e salts a row, pairs are so much wider than their left matrices
  pub wide_is : (n e : ℕ) (pairs : List (HorizontalPair T A B a b)) → HaveSaltColumns e pairs →
      dimensions_of (map pair_matrix pairs) ≡ widened e (dimensions_of (left_batch n pairs).matrices)
  wide_is n e [] w = refl
  wide_is n e (p ∷ pairs) w =
      let same : b.width_of (right_of p) ≡ e = w 0 p (omega arith) in
      rw (same, wide_is n e pairs (λ k d h. w (suc k) d (omega arith))) refl

  -- and so much wider they can be
  pub wide_fits : (n e : ℕ) (pairs : List (HorizontalPair T A B a b)) → HaveSaltColumns e pairs →
      CanWiden e (dimensions_of (left_batch n pairs).matrices)
  wide_fits n e [] w k d h = absurd (omega arith)
  wide_fits n e (p ∷ pairs) w zero d h =
      let same : b.width_of (right_of p) ≡ e = w 0 p (omega arith) in
      let fits : a.width_of (left_of p) + b.width_of (right_of p) < 2 ^ 64 = p.width_fits in
      omega (arith, same, fits)
  wide_fits n e (p ∷ pairs) w (suc k) d h = wide_fits n e pairs (λ k d h. w (suc k) d (omega arith)) k d (omega arith)

  widths_are : (n : ℕ) (pairs : List (HorizontalPair T A B a b)) →
      widths_of (dimensions_of (left_batch n pairs).matrices) ≡ map width_in pairs
  widths_are n [] = refl
  widths_are n (p ∷ pairs) = ap (λ (ws : List ℕ). width_in p ∷ ws) (widths_are n pairs)

  module _ (n : ℕ) (pairs : List (HorizontalPair T A B a b)) (law : (m : A) (r : ℕ) → r < a.height_of m →
      length (a.row_of m r) ≡ a.width_of m) (lawful : IsLawful (heights (shape (pair_batch n pairs)))) where
    at : ℕ → HorizontalPair T A B a b → ℕ
    at i p = i / 2 ^ bits_reduced (greatest (map height_in pairs)) (height_in p)

    -- each pair has the row that belongs to an index
    inside : (i : ℕ) → i < greatest (heights (shape (pair_batch n pairs))) → All (λ p. at i p < height_in p) pairs
    unfolding at
    inside i below k d within =
        let p = get_or pairs k d in
        let here : i / 2 ^ bits_reduced (greatest (heights (shape (pair_batch n pairs)))) (height_in p) < height_in p =
        row_inside height_in (λ p. width_in p + b.width_of (right_of p))
        (λ p. pair_row a.row_of b.row_of (left_of p) (right_of p)) n pairs k i p lawful below within
        (get_or_default pairs k d p within) in
        subst (λ (hs : List ℕ). i / 2 ^ bits_reduced (greatest hs) (height_in p) < height_in p)
        (heights_are pair_matrix height_in (λ p. refl) pairs) here

    pair_rows : (i : ℕ) → i < greatest (heights (shape (pair_batch n pairs))) → honest_rows (pair_batch n pairs) i
        ≡ map (λ p. a.row_of (left_of p) (at i p) ++ b.row_of (right_of p) (at i p)) pairs
    unfolding at
    pair_rows i below =
        side_rows pair_matrix height_in (λ p. refl) n i pairs
        ∙ rows_kept (at i) height_in (λ p. a.row_of (left_of p) (at i p) ++ b.row_of (right_of p) (at i p)) pairs
        (inside i below)

    left_rows : (i : ℕ) → i < greatest (heights (shape (pair_batch n pairs))) → honest_rows (left_batch n pairs) i
        ≡ map (λ p. a.row_of (left_of p) (at i p)) pairs
    unfolding at
    left_rows i below =
        ap (λ (ms : List (Matrix T)). honest_rows (record { arity = n; matrices = ms }) i)
        (map-map (matrix_of a.height_of a.width_of a.row_of) left_of pairs)
        ∙ side_rows left_matrix height_in (λ p. refl) n i pairs
        ∙ rows_kept (at i) height_in (λ p. a.row_of (left_of p) (at i p)) pairs (inside i below)

    right_rows : (i : ℕ) → i < greatest (heights (shape (pair_batch n pairs))) → honest_rows (right_batch n pairs) i
        ≡ map (λ p. b.row_of (right_of p) (at i p)) pairs
    unfolding at
    right_rows i below =
        ap (λ (ms : List (Matrix T)). honest_rows (record { arity = n; matrices = ms }) i)
        (map-map (matrix_of b.height_of b.width_of b.row_of) right_of pairs)
        ∙ side_rows right_matrix height_in (λ p. sym p.one_height) n i pairs
        ∙ rows_kept (at i) (λ p. b.height_of (right_of p)) (λ p. b.row_of (right_of p) (at i p)) pairs
        (λ k d within. let p = get_or pairs k d in
        subst (λ (h : ℕ). at i p < h) p.one_height (inside i below k d within))

    full : (i : ℕ) → i < greatest (heights (shape (pair_batch n pairs))) →
        All (λ p. length (a.row_of (left_of p) (at i p)) ≡ width_in p) pairs
    full i below k d within = let p = get_or pairs k d in law (left_of p) (at i p) (inside i below k d within)

    -- what stands before the salts of an honest row is the left matrix's row
    pub left_is : (i : ℕ) → i < greatest (heights (shape (pair_batch n pairs))) →
        unsalted_parts (map width_in pairs) (honest_rows (pair_batch n pairs) i) ≡ honest_rows (left_batch n pairs) i
    left_is i below =
        ap (unsalted_parts (map width_in pairs)) (pair_rows i below)
        ∙ left_parts (λ p. a.row_of (left_of p) (at i p)) (λ p. b.row_of (right_of p) (at i p)) width_in pairs
        (full i below) ∙ sym (left_rows i below)

    -- and what stands after is the right one's
    pub right_is : (i : ℕ) → i < greatest (heights (shape (pair_batch n pairs))) →
        salt_parts (map width_in pairs) (honest_rows (pair_batch n pairs) i) ≡ honest_rows (right_batch n pairs) i
    right_is i below =
        ap (salt_parts (map width_in pairs)) (pair_rows i below)
        ∙ right_parts (λ p. a.row_of (left_of p) (at i p)) (λ p. b.row_of (right_of p) (at i p)) width_in pairs
        (full i below) ∙ sym (right_rows i below)

    -- both together are the honest row
    pub both_are : (i : ℕ) → i < greatest (heights (shape (pair_batch n pairs))) →
        salted_rows (honest_rows (left_batch n pairs) i) (honest_rows (right_batch n pairs) i)
        ≡ honest_rows (pair_batch n pairs) i
    both_are i below =
        let rows = honest_rows (pair_batch n pairs) i in
        let long : length (map width_in pairs) ≡ length rows = length-map pairs width_in
        ∙ sym (ap length (pair_rows i below)
        ∙ length-map pairs (λ p. a.row_of (left_of p) (at i p) ++ b.row_of (right_of p) (at i p))) in
        (λ j. salted_rows (sym (left_is i below) j) (sym (right_is i below) j))
        ∙ parts_joined (map width_in pairs) rows long

    -- each left row is as long as its matrix is wide
    lengths_are : (g : HorizontalPair T A B a b → List T) (ps : List (HorizontalPair T A B a b)) →
        All (λ p. length (g p) ≡ width_in p) ps → map length (map g ps) ≡ map width_in ps
    lengths_are g [] w = refl
    lengths_are g (p ∷ ps) w = rw (w 0 p (omega arith), lengths_are g ps (λ k d h. w (suc k) d (omega arith))) refl

    -- the honest rows have their widths, and salts
    pub are_salted : (i : ℕ) → i < greatest (heights (shape (pair_batch n pairs))) →
        HaveSalts (dimensions_of (left_batch n pairs).matrices) (honest_rows (left_batch n pairs) i)
        (honest_rows (right_batch n pairs) i)
    are_salted i below = record {
      rows_fit = ap (map length) (left_rows i below)
          ∙ lengths_are (λ p. a.row_of (left_of p) (at i p)) pairs (full i below) ∙ sym (widths_are n pairs);
      in_pairs = ap length (right_rows i below) ∙ length-map pairs (λ p. b.row_of (right_of p) (at i p))
          ∙ sym (ap length (left_rows i below) ∙ length-map pairs (λ p. a.row_of (left_of p) (at i p)));
    }

    -- an accepted opening of pairs is accepted as its rows and salts
    pub salted_from : {W : Type 0} (params : List Dimensions → Params T W) (cap : List (List W)) (e : ℕ)
        (o : SaltedOpening T W) → o.index < greatest (heights (shape (pair_batch n pairs))) → HaveSaltColumns e pairs →
        o.rows ≡ honest_rows (left_batch n pairs) o.index → o.salts ≡ honest_rows (right_batch n pairs) o.index →
        IsAccepted (params (dimensions_of (map pair_matrix pairs))) cap
        (opening_of o.index (honest_rows (pair_batch n pairs) o.index) o.siblings) →
        IsSaltedAccepted e (unsalted_dimensions n pairs) (params (widened e (unsalted_dimensions n pairs))) cap o
    salted_from params cap e o below w rows salts accepted =
        let i = o.index in
        let ds = unsalted_dimensions n pairs in
        record {
          salted = subst (λ (x : List (List T) × List (List T)). HaveSalts ds x.0 x.1)
              (λ k. (sym rows k, sym salts k)) (are_salted i below);
          can_widen = wide_fits n e pairs w;
          accepted =
              subst (λ (rs : List (List T)). IsAccepted (params (widened e ds)) cap (opening_of i rs o.siblings))
              (sym (both_are i below) ∙ (λ k. salted_rows (sym rows k) (sym salts k)))
              (subst (λ (ds : List Dimensions). IsAccepted (params ds) cap
              (opening_of i (honest_rows (pair_batch n pairs) i) o.siblings)) (wide_is n e pairs w) accepted);
        }

    -- the same of several indices
    pub left_sets_are : (is : List ℕ) → All (λ i. i < greatest (heights (shape (pair_batch n pairs)))) is →
        map (unsalted_parts (map width_in pairs)) (map (honest_rows (pair_batch n pairs)) is)
        ≡ map (honest_rows (left_batch n pairs)) is
    left_sets_are [] below = refl
    left_sets_are (i ∷ is) below =
        rw (left_is i (below 0 i (omega arith)), left_sets_are is (λ k d h. below (suc k) d (omega arith))) refl

    pub right_sets_are : (is : List ℕ) → All (λ i. i < greatest (heights (shape (pair_batch n pairs)))) is →
        map (salt_parts (map width_in pairs)) (map (honest_rows (pair_batch n pairs)) is)
        ≡ map (honest_rows (right_batch n pairs)) is
    right_sets_are [] below = refl
    right_sets_are (i ∷ is) below =
        rw (right_is i (below 0 i (omega arith)), right_sets_are is (λ k d h. below (suc k) d (omega arith))) refl

    both_sets_are : (is : List ℕ) → All (λ i. i < greatest (heights (shape (pair_batch n pairs)))) is →
        salted_sets (map (honest_rows (left_batch n pairs)) is) (map (honest_rows (right_batch n pairs)) is)
        ≡ map (honest_rows (pair_batch n pairs)) is
    both_sets_are [] below = refl
    both_sets_are (i ∷ is) below =
        rw (both_are i (below 0 i (omega arith)), both_sets_are is (λ k d h. below (suc k) d (omega arith))) refl

    sets_are_salted : (is : List ℕ) → All (λ i. i < greatest (heights (shape (pair_batch n pairs)))) is →
        AllZip (HaveSalts (dimensions_of (left_batch n pairs).matrices)) (map (honest_rows (left_batch n pairs)) is)
        (map (honest_rows (right_batch n pairs)) is)
    sets_are_salted [] below = tt
    sets_are_salted (i ∷ is) below =
        (are_salted i (below 0 i (omega arith)), sets_are_salted is (λ k d h. below (suc k) d (omega arith)))

    pub salted_pruned_from : {W : Type 0} (params : List Dimensions → Params T W) (cap : List (List W)) (e : ℕ)
        (o : SaltedPruned T W) → All (λ i. i < greatest (heights (shape (pair_batch n pairs)))) o.indices →
        HaveSaltColumns e pairs → o.rows ≡ map (honest_rows (left_batch n pairs)) o.indices → o.salts
        ≡ map (honest_rows (right_batch n pairs)) o.indices →
        IsPrunedAccepted (params (dimensions_of (map pair_matrix pairs))) cap
        (pruned_of o.indices (map (honest_rows (pair_batch n pairs)) o.indices) o.digests) →
        IsSaltedPrunedAccepted e (unsalted_dimensions n pairs) (params (widened e (unsalted_dimensions n pairs))) cap o
    salted_pruned_from params cap e o below w rows salts accepted =
        let is = o.indices in
        let ds = unsalted_dimensions n pairs in
        record {
          in_pairs = ap length salts ∙ length-map is (honest_rows (right_batch n pairs))
              ∙ sym (ap length rows ∙ length-map is (honest_rows (left_batch n pairs)));
          salted = subst (λ (x : List (List (List T)) × List (List (List T))). AllZip (HaveSalts ds) x.0 x.1)
              (λ k. (sym rows k, sym salts k)) (sets_are_salted is below);
          can_widen = wide_fits n e pairs w;
          accepted =
              subst (λ (rs : List (List (List T))). IsPrunedAccepted (params (widened e ds)) cap
              (pruned_of is rs o.digests))
              (sym (both_sets_are is below) ∙ (λ k. salted_sets (sym rows k) (sym salts k)))
              (subst (λ (ds : List Dimensions). IsPrunedAccepted (params ds) cap
              (pruned_of is (map (honest_rows (pair_batch n pairs)) is) o.digests)) (wide_is n e pairs w) accepted);
        }
