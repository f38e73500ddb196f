-- How a check finds the rows that must agree: the first query of each index, and the lowest slot under each node.
use Rattle.std.specs.Prelude.{◌≡◌, ℕ, suc, ◌<◌, ◌≤◌, ◌==◌, Bool, if◌then◌else◌, List, [], ◌∷◌, map, filter, length}
use Rattle.std.specs.Prelude.{replicate, slice_index, slice_index_or, nat_eq, All, Option}
use Rattle.std.specs.List.{dedup, range_with_len, Contains}
use Rattle.std.specs.Cmp.Lexicographic.{pointwise}
use Rattle.p3_merkle_core.specs.Geometry.{Shape, ancestor, exponent, heights, layer_exponent}
use Rattle.p3_merkle_core.specs.Pruning.{PrunedOpening, pruned_of}
use Rattle.p3_answers.specs.Answers.{first_of, first_some, unless}
use Rattle.p3_merkle_core.specs.Refusals.{slots_below, slot_of, width_refusal}
use Rattle.p3_merkle_core.specs.declared.error.MerkleTreeError.{MerkleTreeError}
use Rattle.p3_merkle_core.specs.declared.error.MerkleTreeError.TheVariants.{MalformedPrunedProof}
use Rattle.p3_merkle_core.specs.declared.error.PrunedProofError.TheVariants.{InconsistentGroupOpening}
use Rattle.p3_merkle_core.specs.declared.pruning.DistinctQueries.{DistinctQueries}
use Rattle.p3_support.specs.Batches.{greatest}

-- the distinct indices, ascending
unfoldable pub distinct : List ℕ → List ℕ
distinct indices = slots_below (suc (greatest indices)) indices

-- the place of the first query of index i
abbrev pub first_query : List ℕ → ℕ → ℕ
first_query [] i = 0
first_query (q ∷ qs) i = if q == i then 0 else suc (first_query qs i)

-- queries with their row sets
abbrev pub opened_of : {T : Type 0} → List ℕ → List (List (List T)) → PrunedOpening T ℕ
opened_of indices sets = pruned_of indices sets []

-- the same with so many digests
abbrev pub opened_with : {T : Type 0} → List ℕ → List (List (List T)) → ℕ → PrunedOpening T ℕ
opened_with indices sets n = pruned_of indices sets (replicate n [])

-- k is the slot of index i: how many of the distinct indices are below it, and its place among them
pub record IsSlot (indices : List ℕ) (i k : ℕ) : Type 0 where
  pub slot : k ≡ slot_of indices i
  pub place : k < length (distinct indices)
  pub there : slice_index (distinct indices) k ≡ i

-- the slot of the index of each query
pub record AreSlots (slots queries : List ℕ) : Type 0 where
  pub one_each : length slots ≡ length queries
  pub each : (k : ℕ) → k < length queries → IsSlot queries (slice_index queries k) (slice_index slots k)

-- the queries by ascending index, each with its place
pub record AreSorted (sorted : List (ℕ × ℕ)) (queries : List ℕ) : Type 0 where
  pub once : dedup nat_eq (map (λ query. query.0) sorted) ≡ distinct queries
  pub own : All (λ query. (query.1 < length queries) × (slice_index queries query.1 ≡ query.0)) sorted
  pub each : (k : ℕ) → k < length queries → Contains sorted (slice_index queries k, k)

-- what is queried of some indices: the distinct ones, ascending, the first query of each, and the slot of each query
pub record AreDistinctOf (queried : DistinctQueries) (queries : List ℕ) : Type 0 where
  pub indices : queried.indices.items ≡ distinct queries
  pub first_queries : queried.first_queries.items ≡ map (first_query queries) (distinct queries)
  pub slots : AreSlots queried.slots.items queries

-- the row set of the first query of slot k
abbrev pub slot_rows : {T : Type 0} → List ℕ → List (List (List T)) → ℕ → List (List T)
slot_rows firsts sets k = slice_index_or sets (slice_index firsts k) []

-- a row of matrix m that is not that of the first slot under the same node
abbrev pub row_fault : {T : Type 0} → (T → T → Bool) → ℕ → List (List T) → List (List T) → ℕ → Option MerkleTreeError
row_fault row_eq k rows first_rows m =
    unless (pointwise row_eq (slice_index_or rows m []) (slice_index_or first_rows m []))
    (MalformedPrunedProof (InconsistentGroupOpening k m))

-- the places in input order of the matrices of exponent x
abbrev pub matrices_with : List ℕ → ℕ → List ℕ
matrices_with heights x = filter (λ m. exponent (slice_index heights m) == x) (range_with_len 0 (length heights))

-- the first row of slot k, among those of some matrices, that is not that of the first slot under the same node
abbrev pub rows_refusal : {T : Type 0} → (T → T → Bool) → List ℕ → ℕ → List (List T) → List (List T) →
    Option MerkleTreeError
rows_refusal row_eq matrices k rows first_rows = first_of (row_fault row_eq k rows first_rows) matrices

-- slots ascending, each under its node: the first row, among those of some matrices, that is not that of the lowest
-- slot under the same node
abbrev pub nodes_refusal : {T : Type 0} → (T → T → Bool) → List ℕ → List ℕ → List ℕ → List (List (List T)) →
    Option MerkleTreeError
nodes_refusal row_eq matrices nodes firsts sets =
    first_of (λ k. rows_refusal row_eq matrices k (slot_rows firsts sets k)
    (slot_rows firsts sets (first_query nodes (slice_index nodes k)))) (range_with_len 0 (length nodes))

-- no number is below one before it
abbrev pub IsAscending : List ℕ → Type 0
IsAscending xs = (i j : ℕ) → i ≤ j → j < length xs → slice_index xs i ≤ slice_index xs j

-- layers up to t: the first row that is not that of the lowest slot under the same node
abbrev pub layers_refusal : {T : Type 0} → (T → T → Bool) → Shape → ℕ → List ℕ → List ℕ → List (List (List T)) →
    Option MerkleTreeError
layers_refusal row_eq s t leaves firsts sets =
    first_of (λ l. nodes_refusal row_eq (matrices_with (heights s) (layer_exponent s l)) (map (ancestor s l) leaves)
    firsts sets) (range_with_len 0 (suc t))

-- why slots with their rows are refused: the widths of their rows, else rows under one node that disagree
abbrev pub late_refusal : {T : Type 0} → (T → T → Bool) → Shape → ℕ → List ℕ → List ℕ → List (List (List T)) →
    Option MerkleTreeError
late_refusal row_eq s t leaves firsts sets =
    first_some (first_of (λ query. width_refusal s.dimensions (slice_index_or sets query [])) firsts ∷
    layers_refusal row_eq s t leaves firsts sets ∷ [])
