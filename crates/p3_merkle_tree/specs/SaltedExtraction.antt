-- What two salted openings of one cap lead to, in the words of rows and salts.
use Rattle.std.specs.Prelude.{◌≡◌, ◌≢◌, ◌⊎◌, ◌↔◌, ◌<◌, ℕ, Bool, IfOk, IsNone, IsSome, IsTrue, List, [], Option, Result}
use Rattle.std.specs.Prelude.{length, slice_index, slice_index_or}
use Rattle.p3_support.specs.Batches.{greatest}
use Rattle.p3_support.specs.declared.matrix.Dimensions.{Dimensions}
use Rattle.p3_merkle_core.specs.Geometry.{Shape, heights, halved_index}
use Rattle.p3_merkle_core.specs.Checks.{Params, is_authenticated}
use Rattle.p3_merkle_core.specs.Extraction.{IsExtraction}
use Rattle.p3_merkle_core.specs.Pruning.{restored_path}
use Rattle.p3_merkle_core.specs.Views.{found_alone, found_pair}
use Rattle.p3_merkle_core.specs.declared.cap.CapRule.{CapRule}
use Rattle.p3_merkle_core.specs.declared.cap.CapRule.TheVariants.{Lowered}
use Rattle.p3_merkle_core.specs.declared.collision.InputPair.{InputPair}
use Rattle.p3_merkle_core.specs.declared.error.MerkleTreeError.{MerkleTreeError}
use Rattle.p3_merkle_tree.specs.SaltedOpenings.{SaltedOpening, SaltedPruned, joined_sets, salted_of}
use Rattle.p3_merkle_tree.specs.SaltedPresented.{presented_salted, presented_salted_pruned}

-- ---- two openings of one index each

-- the row that an opening has for matrix k
abbrev pub row_in : {T W : Type 0} → SaltedOpening T W → ℕ → List T
row_in o k = slice_index_or o.rows k []

-- the salts of that row
abbrev pub salts_in : {T W : Type 0} → SaltedOpening T W → ℕ → List T
salts_in o k = slice_index_or o.salts k []

-- two openings conflict in matrix k: they have different words for one row of it, or different salts
pub record ConflictAt {T W : Type 0} (s : Shape) (o u : SaltedOpening T W) (k : ℕ) : Type 0 where
  pub exists : k < length (heights s)
  pub one_row : halved_index (greatest (heights s)) (slice_index (heights s) k) o.index ≡
      halved_index (greatest (heights s)) (slice_index (heights s) k) u.index
  pub two_ways : (row_in o k ≢ row_in u k) ⊎ (salts_in o k ≢ salts_in u k)

-- two openings conflict in some matrix
abbrev pub ConflictSomewhere : {T W : Type 0} → Params T W → SaltedOpening T W → SaltedOpening T W → Type 0
ConflictSomewhere c o u = (k : ℕ) × ConflictAt c.shape o u k

-- two openings conflict in some authenticated matrix
abbrev pub ConflictWhereAuthenticated : {T W : Type 0} → Params T W → SaltedOpening T W → SaltedOpening T W → Type 0
ConflictWhereAuthenticated c o u = (k : ℕ) × IsTrue (is_authenticated c.shape c.layer k) × ConflictAt c.shape o u k

-- two openings have the same siblings, and the same row and salts of each authenticated matrix
pub record AgreeWhereAuthenticated {T W : Type 0} (c : Params T W) (o u : SaltedOpening T W) : Type 0 where
  pub siblings : o.siblings ≡ u.siblings
  pub rows : (k : ℕ) → k < length (heights c.shape) → IsTrue (is_authenticated c.shape c.layer k) →
      row_in o k ≡ row_in u k
  pub salts : (k : ℕ) → k < length (heights c.shape) → IsTrue (is_authenticated c.shape c.layer k) →
      salts_in o k ≡ salts_in u k

-- the result of an extraction from two openings with e salts a row, of matrices of these dimensions without salts: it
-- is that from the rows followed by their salts
pub record IsSaltedExtraction {T W : Type 0} (row_eq : T → T → Bool) (digest_eq : W → W → Bool) (rule : CapRule) (e : ℕ)
    (dimensions : List Dimensions) (c : Params T W) (cap : List (List W)) (o u : SaltedOpening T W)
    (result : Result (Option (InputPair T (List W))) MerkleTreeError) : Type 0 where
  pub extraction : let presented = presented_salted digest_eq e dimensions c cap in
      IsExtraction row_eq digest_eq rule c (presented o) (presented u) (found_alone result)
  -- at one index nothing is found exactly where the siblings, and the rows and salts of authenticated matrices, are the
  -- same
  pub one_index : o.index ≡ u.index → IfOk result (λ found. IsNone found ↔ AgreeWhereAuthenticated c o u)
  -- at any indices something is found where one row of an authenticated matrix, or its salts, are answered in two ways
  pub two_ways : ConflictWhereAuthenticated c o u → IfOk result (λ found. IsSome found)
  -- under the lowered rule, so it is of all matrices
  pub lowered_one_index : rule ≡ Lowered → o.index ≡ u.index → IfOk result (λ found. IsNone found ↔ (o ≡ u))
  pub lowered_two_ways : rule ≡ Lowered → ConflictSomewhere c o u → IfOk result (λ found. IsSome found)

-- ---- two openings of several indices

-- query k as an opening of its own: its row set and its salt set, with its restored path
abbrev pub salted_opening_at : {T W : Type 0} → Params T W → SaltedPruned T W → ℕ → SaltedOpening T W
salted_opening_at c p k =
    let i = slice_index p.indices k in
    salted_of i (slice_index_or p.rows k []) (slice_index_or p.salts k []) (restored_path c (joined_sets p) i)

-- each query of the one and each of the other
abbrev pub EachSaltedPair : {T W : Type 0} → Params T W → SaltedPruned T W → SaltedPruned T W →
    (SaltedOpening T W → SaltedOpening T W → Type 0) → Type 0
EachSaltedPair c p q Holds =
    (a b : ℕ) → a < length p.indices → b < length q.indices → Holds (salted_opening_at c p a) (salted_opening_at c q b)

-- some query of the one and some of the other
abbrev pub SomeSaltedPair : {T W : Type 0} → Params T W → SaltedPruned T W → SaltedPruned T W →
    (SaltedOpening T W → SaltedOpening T W → Type 0) → Type 0
SomeSaltedPair c p q Holds =
    (a : ℕ) × (b : ℕ) × (a < length p.indices) × (b < length q.indices) ×
    Holds (salted_opening_at c p a) (salted_opening_at c q b)

-- the same of two openings of several indices: of queries of one index, of some two queries
pub record IsSaltedPrunedExtraction {T W : Type 0} (row_eq : T → T → Bool) (digest_eq : W → W → Bool) (rule : CapRule)
    (e : ℕ) (dimensions : List Dimensions) (c : Params T W) (cap : List (List W)) (p q : SaltedPruned T W)
    (result : Result (Option (ℕ × ℕ × InputPair T (List W))) MerkleTreeError) : Type 0 where
  pub extraction : let presented = presented_salted_pruned row_eq digest_eq e dimensions c cap in
      IsExtraction row_eq digest_eq rule c (presented p) (presented q) (found_pair result)
  pub one_index : EachSaltedPair c p q (λ o u. o.index ≡ u.index) →
      IfOk result (λ found. IsNone found ↔ EachSaltedPair c p q (AgreeWhereAuthenticated c))
  pub two_ways : SomeSaltedPair c p q (ConflictWhereAuthenticated c) → IfOk result (λ found. IsSome found)
  pub lowered_one_index : rule ≡ Lowered → EachSaltedPair c p q (λ o u. o.index ≡ u.index) →
      IfOk result (λ found. IsNone found ↔ EachSaltedPair c p q (λ o u. o ≡ u))
  pub lowered_two_ways : rule ≡ Lowered → SomeSaltedPair c p q (ConflictSomewhere c) →
      IfOk result (λ found. IsSome found)

-- ---- two openings of one list of indices

-- the row that query a has for matrix k
abbrev pub salted_row_at : {T W : Type 0} → SaltedPruned T W → ℕ → ℕ → List T
salted_row_at p a k = slice_index_or (slice_index_or p.rows a []) k []

-- the salts of that row
abbrev pub salts_at : {T W : Type 0} → SaltedPruned T W → ℕ → ℕ → List T
salts_at p a k = slice_index_or (slice_index_or p.salts a []) k []

-- two openings have the same digests, and for each query the same row and salts of each authenticated matrix
pub record SaltedProofsAgree {T W : Type 0} (c : Params T W) (p q : SaltedPruned T W) : Type 0 where
  pub digests : p.digests ≡ q.digests
  pub rows : (a k : ℕ) → a < length p.indices → k < length (heights c.shape) →
      IsTrue (is_authenticated c.shape c.layer k) → salted_row_at p a k ≡ salted_row_at q a k
  pub salts : (a k : ℕ) → a < length p.indices → k < length (heights c.shape) →
      IsTrue (is_authenticated c.shape c.layer k) → salts_at p a k ≡ salts_at q a k

-- of one list of indices nothing is found exactly where the digests, and the rows and salts of authenticated matrices,
-- agree; under the lowered rule, exactly where both openings are the same
pub record IsOnlySaltedOpening {T W Found : Type 0} (rule : CapRule) (c : Params T W) (p q : SaltedPruned T W)
    (result : Result (Option Found) MerkleTreeError) : Type 0 where
  pub one_list : p.indices ≡ q.indices → IfOk result (λ found. IsNone found ↔ SaltedProofsAgree c p q)
  pub lowered_one_list : rule ≡ Lowered → p.indices ≡ q.indices → IfOk result (λ found. IsNone found ↔ (p ≡ q))
