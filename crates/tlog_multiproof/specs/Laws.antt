-- What makes the tree of a log of RFC 9162 the tree of arity 2 over its leaf hashes, for every hash function. D is a
-- list of entries.
use Rattle.std.specs.Prelude.{◌≡◌, ◌↔◌, ℕ, ◌*◌, ◌^◌, ◌<◌, ◌≤◌, All, List, [], ◌∷◌, length, map, take, drop, slice_index}
use Rattle.std.specs.Prelude.{slice_index_or, IsTrue, ◌++◌}
use Rattle.p3_merkle_core.specs.Geometry.{levels}
use Rattle.p3_merkle_core.specs.Nodes.{Batch, node}
use Rattle.p3_merkle_core.specs.Openings.{honest, opening_of}
use Rattle.p3_merkle_core.specs.Checks.{IsAccepted}
use Rattle.p3_merkle_core.specs.Commitments.{cap_over}
use Rattle.p3_merkle_core.specs.Pruning.{IsUncovered}
use Rattle.p3_merkle_core.specs.Pruning.{Suffices, is_in, boundary, honest_query, opening_at, pruned_of, restored_path}
use Rattle.tlog.specs.Rfc9162.{Hash as HashFunction, leaf_hash, path_of, root_of}
use Rattle.tlog.specs.Verdicts.{IsIncluded, size_limit}
use Rattle.std.specs.List.Sorted.{IsPermutation}
use Rattle.tlog_multiproof.specs.Entries.{entries_refusal, proof_nodes}
use Rattle.tlog_multiproof.specs.Instance.{root_cap, AreLogDigests, IsLogPath, slots_of}
use Rattle.tlog_multiproof.specs.Instance.{leaf_row_set, log_batch, log_functions, log_params, log_shape, present}
use Rattle.tlog_multiproof.specs.declared.tree.Node.{Node}
use Rattle.tlog_multiproof.specs.declared.tree.Node.TheVariants.{Absent, Hash}

-- the leaf hashes of entries, as a matrix of one column
abbrev pub entries_batch : HashFunction → List (List ℕ) → Batch Node
entries_batch hash D = log_batch (map (leaf_hash hash) D)

-- ---- the tree

-- a slot with entries below it has MTH of these, any other one is absent
pub record NodesAreMth : Type 0 where
  pub nodes : (hash : HashFunction) (D : List (List ℕ)) (l j : ℕ) → l ≤ levels (log_shape (length D)) →
      j * 2 ^ l < length D →
      node (log_functions hash) (entries_batch hash D) l j
      ≡ Hash (root_of hash (take (2 ^ l) (drop (j * 2 ^ l) D))) ∷ []
  pub padding : (hash : HashFunction) (D : List (List ℕ)) (l j : ℕ) → 0 < length D →
      l ≤ levels (log_shape (length D)) → length D ≤ j * 2 ^ l →
      node (log_functions hash) (entries_batch hash D) l j ≡ Absent ∷ []

-- the cap is MTH(D)
abbrev pub CapIsMth : Type 0
CapIsMth = (hash : HashFunction) (D : List (List ℕ)) → 0 < length D →
    cap_over (log_params hash (length D)) (entries_batch hash D) ≡ root_cap (root_of hash D)

-- ---- one entry

-- the siblings of the honest opening of entry m that are there are PATH(m, D)
abbrev pub SiblingsArePath : Type 0
SiblingsArePath = (hash : HashFunction) (D : List (List ℕ)) (m : ℕ) → m < length D →
    present (honest (log_functions hash) (entries_batch hash D) (levels (log_shape (length D))) m).siblings
    ≡ path_of hash m D

-- an opening is accepted exactly if the algorithm of 2.1.3.2 accepts its siblings that are there
abbrev pub OpeningIsInclusion : Type 0
OpeningIsInclusion = (hash : HashFunction) (size index : ℕ) (leaf : List ℕ) (path : List (List Node)) (root : List ℕ) →
    index < size → size ≤ size_limit → IsLogPath size index path →
    IsAccepted (log_params hash size) (root_cap root) (opening_of index (leaf_row_set leaf) path)
    ↔ IsIncluded hash index size leaf (present path) root

-- ---- several entries

-- the digests of the honest pruned opening are there at nodes alone, and the siblings of each query that are there are
-- its PATH
pub record RestoredArePaths : Type 0 where
  pub filled : (hash : HashFunction) (D : List (List ℕ)) (indices : List ℕ) → 0 < length D →
      let s = log_shape (length D) in
      AreLogDigests (length D) (boundary s indices (levels s))
      (honest_query (log_functions hash) (entries_batch hash D) (levels s) indices).digests
  pub paths : (hash : HashFunction) (D : List (List ℕ)) (indices : List ℕ) (k : ℕ) → length D ≤ size_limit →
      All (λ i. i < length D) indices → k < length indices → let i = slice_index indices k in
      present (restored_path (log_params hash (length D))
      (honest_query (log_functions hash) (entries_batch hash D) (levels (log_shape (length D))) indices) i)
      ≡ path_of hash i D

-- each query of a pruned opening is accepted exactly if the algorithm of 2.1.3.2 accepts its restored siblings that are
-- there
abbrev pub QueryIsInclusion : Type 0
QueryIsInclusion = (hash : HashFunction) (size : ℕ) (indices : List ℕ) (leaves : List (List ℕ))
    (digests : List (List Node)) (root : List ℕ) (k : ℕ) → size ≤ size_limit → All (λ i. i < size) indices →
    length leaves ≡ length indices →
    AreLogDigests size (boundary (log_shape size) indices (levels (log_shape size))) digests → k < length indices →
    let c = log_params hash size in
    let p = pruned_of indices (map leaf_row_set leaves) digests in
    let i = slice_index indices k in
    IsAccepted c (root_cap root) (opening_at c p k)
    ↔ IsIncluded hash i size (slice_index_or leaves k []) (present (restored_path c p i)) root

-- slots without entries below them
abbrev pub ArePadding : ℕ → List (ℕ × ℕ) → Type 0
ArePadding size slots = (l j : ℕ) → IsTrue (is_in slots l j) → size ≤ j * 2 ^ l

-- the nodes of a proof suffice beside padding, and no fewer uncovered nodes do beside any padding
pub record ProofIsSmallest : Type 0 where
  pub suffices : (size : ℕ) (indices : List ℕ) → All (λ i. i < size) indices → let s = log_shape size in
      (padding : List (ℕ × ℕ)) × ArePadding size padding
      × Suffices s indices (levels s) (slots_of (proof_nodes size indices) ++ padding)
  pub fewest : (size : ℕ) (indices : List ℕ) (given padding : List (ℕ × ℕ)) → All (λ i. i < size) indices →
      ArePadding size padding → let s = log_shape size in IsUncovered s indices (levels s) given →
      Suffices s indices (levels s) (given ++ padding) → length (proof_nodes size indices) ≤ length given

-- the verdict on entries, each an index and a leaf hash, hangs on no order of them
abbrev pub OrderIsFree : Type 0
OrderIsFree = (hash : HashFunction) (size : ℕ) (entries others : List (ℕ × List ℕ)) (proof : List (List ℕ))
    (root : List ℕ) → IsPermutation entries others →
    let index = λ (entry : ℕ × List ℕ). entry.0 in
    let leaf = λ (entry : ℕ × List ℕ). entry.1 in
    entries_refusal hash size (map index entries) (map leaf entries) proof root
    ≡ entries_refusal hash size (map index others) (map leaf others) proof root
