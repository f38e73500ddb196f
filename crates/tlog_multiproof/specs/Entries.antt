-- Several entries by one proof: its digests, when it is accepted, and why it is refused.
use Rattle.std.specs.Prelude.{◌≡◌, ℕ, ◌*◌, ◌^◌, ◌<◌, ◌==◌, nat_lt, nat_le, if◌then◌else◌, Bool, not, ◌||◌, All, List}
use Rattle.std.specs.Prelude.{[], ◌∷◌, ◌++◌, length, map, filter, zip, take, drop, slice_index, slice_index_or, Option}
use Rattle.std.specs.Prelude.{option_map}
use Rattle.std.specs.List.{list_all}
use Rattle.std.specs.Option.{option_or}
use Rattle.p3_support.specs.Batches.{greatest}
use Rattle.p3_merkle_core.specs.Geometry.{levels}
use Rattle.p3_merkle_core.specs.Pruning.{PrunedOpening, boundary, pruned_of, restored_path}
use Rattle.p3_answers.specs.Answers.{first_of, first_some, unless}
use Rattle.tlog.specs.Rfc9162.{Hash as HashFunction}
use Rattle.tlog.specs.Verdicts.{IsIncluded, inclusion_refusal, is_same, size_limit}
use Rattle.tlog_tree.specs.declared.node_id.NodeId.{NodeId}
use Rattle.tlog_multiproof.specs.Instance.{leaf_row_set, log_params, log_shape, nodes_at, present}
use Rattle.tlog_multiproof.specs.declared.tree.Node.{Node}
use Rattle.tlog_multiproof.specs.declared.tree.Node.TheVariants.{Absent, Hash}
use Rattle.tlog_multiproof.specs.declared.error.EntriesError.{EntriesError}
use Rattle.tlog_multiproof.specs.declared.error.EntriesError.TheVariants.{SizeTooLarge, NoIndices, LeafCountMismatch}
use Rattle.tlog_multiproof.specs.declared.error.EntriesError.TheVariants.{IndexPastEnd, TooFewDigests, TooManyDigests}
use Rattle.tlog_multiproof.specs.declared.error.EntriesError.TheVariants.{TwoLeafHashes, RootMismatch}

-- ---- the digests

-- a slot (layer, slot) of the tree of so many entries is a node if it has entries below it
abbrev pub is_node : ℕ → ℕ × ℕ → Bool
is_node size (layer, slot) = nat_lt (slot * 2 ^ layer) size

-- the nodes whose digests a proof of these entries has, in order: the children of nodes above the entries that are
-- neither entries themselves nor above any
abbrev pub proof_nodes : ℕ → List ℕ → List NodeId
proof_nodes size indices = let s = log_shape size in nodes_at (filter (is_node size) (boundary s indices (levels s)))

-- a digest for each of these slots: for a node the next of the proof, and none for padding
abbrev pub with_padding : ℕ → List (ℕ × ℕ) → List (List ℕ) → List (List Node)
with_padding size [] proof = []
with_padding size (slot ∷ slots) proof =
    if is_node size slot then map (λ digest. Hash digest ∷ []) (take 1 proof) ++ with_padding size slots (drop 1 proof)
    else ((Absent ∷ []) ∷ with_padding size slots proof)

-- the opening of entries: their leaf hashes are the rows
abbrev pub entries_opening : ℕ → List ℕ → List (List ℕ) → List (List ℕ) → PrunedOpening Node Node
entries_opening size indices leaves proof =
    let s = log_shape size in
    pruned_of indices (map leaf_row_set leaves) (with_padding size (boundary s indices (levels s)) proof)

-- the proof of inclusion of one entry, as the leaf hashes and the digests give it
abbrev pub entry_path : HashFunction → ℕ → List ℕ → List (List ℕ) → List (List ℕ) → ℕ → List (List ℕ)
entry_path hash size indices leaves proof index =
    present (restored_path (log_params hash size) (entries_opening size indices leaves proof) index)

-- ---- accepted

-- some entries, with a leaf hash for each index, and no two for one; a digest for each node; and the standard accepts
-- each entry with its path
pub record AreIncluded (hash : HashFunction) (size : ℕ) (indices : List ℕ) (leaves proof : List (List ℕ))
    (root : List ℕ) : Type 0 where
  pub some : 0 < length indices
  pub in_pairs : length leaves ≡ length indices
  pub within : All (λ index. index < size) indices
  pub count : length proof ≡ length (proof_nodes size indices)
  pub one_leaf : (a b : ℕ) → a < length indices → b < length indices → slice_index indices a ≡ slice_index indices b →
      slice_index_or leaves a [] ≡ slice_index_or leaves b []
  pub each : (k : ℕ) → k < length indices → let index = slice_index indices k in
      IsIncluded hash index size (slice_index_or leaves k []) (entry_path hash size indices leaves proof index) root

-- ---- refused

-- why so many digests are refused, where a proof has another number of them
abbrev pub digests_refusal : ℕ → ℕ → Option EntriesError
digests_refusal expected got =
    first_some (unless (nat_le expected got) TooFewDigests ∷ unless (nat_le got expected) TooManyDigests ∷ [])

-- why entries are refused before the digests are looked at
abbrev pub indices_refusal : ℕ → List ℕ → ℕ → Option EntriesError
indices_refusal size indices leaves =
    first_some (
    unless (nat_le size size_limit) SizeTooLarge
    ∷ unless (nat_lt 0 (length indices)) NoIndices
    ∷ unless (leaves == length indices) LeafCountMismatch
    ∷ unless (nat_lt (greatest indices) size) IndexPastEnd
    ∷ [])

-- why so many leaf hashes and digests are refused, whatever they are
abbrev pub form_refusal : ℕ → List ℕ → ℕ → ℕ → Option EntriesError
form_refusal size indices leaves digests =
    option_or (indices_refusal size indices leaves) (digests_refusal (length (proof_nodes size indices)) digests)

-- whether no index has two leaf hashes
abbrev pub is_one_leaf_each : List (ℕ × List ℕ) → Bool
is_one_leaf_each pairs =
    list_all (λ (index, leaf). list_all (λ (other, hash). not (index == other) || is_same leaf hash) pairs) pairs

-- why entries are refused: their form; two leaf hashes of one index; or a path that the standard refuses, which can
-- only lead to another root
abbrev pub entries_refusal : HashFunction → ℕ → List ℕ → List (List ℕ) → List (List ℕ) → List ℕ → Option EntriesError
entries_refusal hash size indices leaves proof root =
    let pairs = zip indices leaves in
    first_some (
    form_refusal size indices (length leaves) (length proof)
    ∷ unless (is_one_leaf_each pairs) TwoLeafHashes
    ∷ option_map (λ e. RootMismatch) (first_of (λ (index, leaf).
    inclusion_refusal hash index size leaf (entry_path hash size indices leaves proof index) root) pairs)
    ∷ [])
