-- Rows followed by their salts, and when openings of such rows are accepted.
use Rattle.std.specs.Prelude.{◌≡◌, ℕ, List, [], ◌++◌, map, length, slice_index, slice_index_or, zip}
use Rattle.std.specs.List.{AllZip}
use Rattle.p3_support.specs.Batches.{CanWiden}
use Rattle.p3_support.specs.declared.matrix.Dimensions.{Dimensions}
use Rattle.p3_support.specs.Batches.{widths_of}
use Rattle.p3_merkle_core.specs.Openings.{Opening, opening_of}
use Rattle.p3_merkle_core.specs.Checks.{IsAccepted, Params}
use Rattle.p3_merkle_core.specs.Geometry.{Shape}
use Rattle.p3_merkle_core.specs.Pruning.{IsPrunedAccepted, IsRestorable, PrunedOpening, pruned_of}

-- ---- what is hashed

-- each row followed by its salts
abbrev pub salted_rows : {T : Type 0} → List (List T) → List (List T) → List (List T)
salted_rows rows salts = map (λ (row, salt). row ++ salt) (zip rows salts)

-- the same of several queries: a row set and a salt set for each
abbrev pub salted_sets : {T : Type 0} → List (List (List T)) → List (List (List T)) → List (List (List T))
salted_sets sets salts = map (λ (rows, salt). salted_rows rows salt) (zip sets salts)

-- ---- openings

-- an opening of an index: a row of each matrix, the salts of each row, and the siblings on the path
pub record SaltedOpening (T W : Type 0) : Type 0 where
  pub index : ℕ
  pub rows : List (List T)
  pub salts : List (List T)
  pub siblings : List (List W)

-- the opening of an index, rows, salts and siblings
abbrev pub salted_of : {T W : Type 0} → ℕ → List (List T) → List (List T) → List (List W) → SaltedOpening T W
salted_of index rows salts siblings = record { index = index; rows = rows; salts = salts; siblings = siblings }

-- the plain opening that a check sees: rows followed by salts
abbrev pub joined : {T W : Type 0} → SaltedOpening T W → Opening T W
joined o = opening_of o.index (salted_rows o.rows o.salts) o.siblings

-- an opening of several indices by one pruned proof: a row set and a salt set for each index, and the digests of the
-- proof
pub record SaltedPruned (T W : Type 0) : Type 0 where
  pub indices : List ℕ
  pub rows : List (List (List T))
  pub salts : List (List (List T))
  pub digests : List (List W)

-- the opening of indices, row sets, salt sets and digests
abbrev pub salted_pruned_of : {T W : Type 0} → List ℕ → List (List (List T)) → List (List (List T)) → List (List W) →
    SaltedPruned T W
salted_pruned_of indices rows salts digests =
    record { indices = indices; rows = rows; salts = salts; digests = digests }

-- the plain pruned opening that a check sees
abbrev pub joined_sets : {T W : Type 0} → SaltedPruned T W → PrunedOpening T W
joined_sets p = pruned_of p.indices (salted_sets p.rows p.salts) p.digests

-- the first query with the digests of the proof as its siblings: an opening of one index, where there is one query
abbrev pub salted_as_single : {T W : Type 0} → SaltedPruned T W → SaltedOpening T W
salted_as_single p =
    salted_of (slice_index p.indices 0) (slice_index_or p.rows 0 []) (slice_index_or p.salts 0 []) p.digests

-- ---- accepted

-- rows have the widths of their matrices, and there are as many salts as rows
pub record HaveSalts {T : Type 0} (dimensions : List Dimensions) (rows salts : List (List T)) : Type 0 where
  pub rows_fit : map length rows ≡ widths_of dimensions
  pub in_pairs : length salts ≡ length rows

-- an opening with e salts a row is accepted under a cap: its rows have their widths without the salts, the widths with
-- them are sizes, and rows followed by salts are accepted under the parameters of matrices that have e more columns
pub record IsSaltedAccepted {T W : Type 0} (e : ℕ) (dimensions : List Dimensions) (c : Params T W)
    (cap : List (List W)) (o : SaltedOpening T W) : Type 0 where
  pub salted : HaveSalts dimensions o.rows o.salts
  pub can_widen : CanWiden e dimensions
  pub accepted : IsAccepted c cap (joined o)

-- the same of several indices
pub record IsSaltedPrunedAccepted {T W : Type 0} (e : ℕ) (dimensions : List Dimensions) (c : Params T W)
    (cap : List (List W)) (p : SaltedPruned T W) : Type 0 where
  pub in_pairs : length p.salts ≡ length p.rows
  pub salted : AllZip (HaveSalts dimensions) p.rows p.salts
  pub can_widen : CanWiden e dimensions
  pub accepted : IsPrunedAccepted c cap (joined_sets p)

-- an opening of several indices with e salts a row restores, up to layer t of a shape: the same, without a cap
pub record IsSaltedRestorable {T W : Type 0} (e : ℕ) (dimensions : List Dimensions) (s : Shape) (t : ℕ)
    (p : SaltedPruned T W) : Type 0 where
  pub in_pairs : length p.salts ≡ length p.rows
  pub salted : AllZip (HaveSalts dimensions) p.rows p.salts
  pub can_widen : CanWiden e dimensions
  pub restorable : IsRestorable s t (joined_sets p)
