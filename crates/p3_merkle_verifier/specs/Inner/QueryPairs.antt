-- Queries of two pruned openings, and the first pair of them whose checks differ.
use Rattle.std.specs.Prelude.{◌≡◌, ◌<◌, ◌≤◌, ℕ, Bool, List, [], Option, None, length, option_map, slice_index}
use Rattle.std.specs.Prelude.{slice_index_or, ◌⊎◌}
use Rattle.std.specs.List.{range_with_len}
use Rattle.p3_merkle_core.specs.Views.{shown_paths, inputs_in}
use Rattle.p3_merkle_core.specs.Extraction.{difference_of}
use Rattle.p3_merkle_core.specs.Inner.Agreement.{IsAscending}
use Rattle.p3_merkle_core.specs.Openings.{Opening, opening_of}
use Rattle.p3_merkle_core.specs.Checks.{Input, Params}
use Rattle.p3_merkle_core.specs.Pruning.{PrunedOpening, opening_at}
use Rattle.p3_answers.specs.Answers.{first_of}
use Rattle.p3_merkle_core.specs.declared.collision.InputPair.{InputPair}
use Rattle.p3_support.specs.RowSets.{sets_in}
use Rattle.p3_merkle_verifier.specs.Inner.Checks.{AgreeBelow}
use Rattle.p3_merkle_verifier.specs.Inner.Paths.{CanReach}
use Rattle.p3_merkle_verifier.specs.declared.pruned_extraction.RestoredQueries.{RestoredQueries}

-- query k, as an opening with its path
abbrev pub query_in : {T W : Type 0} → RestoredQueries T (List W) → ℕ → Opening T W
query_in queries k =
    let (index, siblings) = slice_index_or (shown_paths queries.paths.items) k (0, []) in
    opening_of index (slice_index_or (sets_in queries.sets) k []) siblings

-- the queries can be checked up to the cap's layer: each has a row set, and a path with its siblings
pub record CanCompare {T W : Type 0} (c : Params T W) (queries : RestoredQueries T (List W)) : Type 0 where
  pub in_pairs : length (sets_in queries.sets) ≡ length queries.paths.items
  pub reach : (k : ℕ) → k < length queries.paths.items → CanReach c.shape c.layer (length (query_in queries k).siblings)

-- v is between i and j, or one of them
abbrev pub IsBetween : ℕ → ℕ → ℕ → Type 0
IsBetween i v j = ((i ≤ v) × (v ≤ j)) ⊎ ((j ≤ v) × (v ≤ i))

-- query b stands between an index and query k
pub record StandsBetween {T W : Type 0} (queries : RestoredQueries T (List W)) (index k b : ℕ) : Type 0 where
  pub inside : b < length queries.paths.items
  pub between : IsBetween index (query_in queries b).index (query_in queries k).index

-- the leaves of the queries ascend, and each has a query; each query has its leaf among them
pub record HasLeaves {T W : Type 0} (queries : RestoredQueries T (List W)) : Type 0 where
  pub ascending : IsAscending queries.leaves.indices.items
  pub in_pairs : length queries.leaves.first_queries.items ≡ length queries.leaves.indices.items
  pub inside : (slot : ℕ) → slot < length queries.leaves.indices.items →
      slice_index queries.leaves.first_queries.items slot < length queries.paths.items
  pub query_of : (slot : ℕ) → slot < length queries.leaves.indices.items →
      (query_in queries (slice_index queries.leaves.first_queries.items slot)).index
      ≡ slice_index queries.leaves.indices.items slot
  pub leaf_of : (k : ℕ) → k < length queries.paths.items → (slot : ℕ) ×
      (slot < length queries.leaves.indices.items) ×
      (slice_index queries.leaves.indices.items slot ≡ (query_in queries k).index)

-- the queries can be compared, the checks of any two agree up to the cap, and their leaves are known
pub record CanSearch {T W : Type 0} (c : Params T W) (queries : RestoredQueries T (List W)) : Type 0 where
  pub comparable : CanCompare c queries
  pub consistent : (a b : ℕ) → a < length queries.paths.items → b < length queries.paths.items →
      AgreeBelow c.functions c.shape (query_in queries a) (query_in queries b) c.layer
  pub leaves : HasLeaves queries

-- the queries are those of a pruned opening, each with its restored path
pub record AreQueriesOf {T W : Type 0} (c : Params T W) (p : PrunedOpening T W) (queries : RestoredQueries T (List W)) :
    Type 0 where
  pub as_many : length queries.paths.items ≡ length p.indices
  pub each : (k : ℕ) → k < length p.indices → query_in queries k ≡ opening_at c p k

-- the last inputs that the checks of two openings share and that differ, kept folded
unfoldable pub query_difference : {T W : Type 0} → (T → T → Bool) → (W → W → Bool) → Params T W → Opening T W →
    Opening T W → Option (Input T W × Input T W)
query_difference row_eq digest_eq c o u = difference_of row_eq digest_eq c o u

-- the check of an opening differs from that of no query
abbrev pub AgreesWithAll : {T W : Type 0} → (T → T → Bool) → (W → W → Bool) → Params T W → Opening T W →
    RestoredQueries T (List W) → Type 0
AgreesWithAll row_eq digest_eq c o queries =
    (k : ℕ) → k < length queries.paths.items → query_difference row_eq digest_eq c o (query_in queries k) ≡ None

-- the first number below n for which d gives a value
abbrev pub first_place : {X : Type 0} → (ℕ → Option X) → ℕ → Option (ℕ × X)
first_place d n = first_of (λ b. option_map (λ x. (b, x)) (d b)) (range_with_len 0 n)

module _ {T W : Type 0} where
  -- what is found at a place shows these inputs at the same place, or there are none and nothing is found
  abbrev pub ShowsAt : Option (ℕ × InputPair T (List W)) → Option (ℕ × (Input T W × Input T W)) → Type 0
  ShowsAt found inputs = option_map (λ (b, pair). (b, inputs_in pair)) found ≡ inputs

  -- the same at two places
  abbrev pub ShowsPair : Option (ℕ × ℕ × InputPair T (List W)) → Option (ℕ × ℕ × (Input T W × Input T W)) → Type 0
  ShowsPair found inputs = option_map (λ (a, b, pair). (a, b, inputs_in pair)) found ≡ inputs
