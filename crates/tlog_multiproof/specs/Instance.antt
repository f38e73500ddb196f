-- A log's tree as a tree of arity 2: over one column of leaf hashes, under any hash function.
use Rattle.std.specs.Prelude.{◌≡◌, ℕ, suc, ◌+◌, ◌-◌, ◌*◌, ◌/◌, ◌%◌, ◌^◌, ◌<◌, ◌≤◌, List, [], ◌∷◌, length, map, flat_map}
use Rattle.std.specs.Prelude.{slice_index_or}
use Rattle.p3_support.specs.declared.matrix.Dimensions.{Dimensions}
use Rattle.p3_merkle_core.specs.Geometry.{Shape, levels, shape_of}
use Rattle.p3_merkle_core.specs.Nodes.{Batch, Functions, functions_of}
use Rattle.p3_merkle_core.specs.Checks.{Params, params}
use Rattle.tlog.specs.Rfc9162.{Hash as HashFunction}
use Rattle.tlog_tree.specs.Trees.{id_of}
use Rattle.tlog_tree.specs.declared.node_id.NodeId.{NodeId}
use Rattle.tlog_multiproof.specs.Nodes.{last_word, parent_digest}
use Rattle.tlog_multiproof.specs.declared.tree.Node.{Node}
use Rattle.tlog_multiproof.specs.declared.tree.Node.TheVariants.{Absent, Hash}

-- a row of one word is its own digest, a node has the hash of its children, and padding is absent
abbrev pub log_functions : HashFunction → Functions Node Node
log_functions hash = functions_of last_word (parent_digest hash) (Absent ∷ [])

-- the dimensions of a log of so many entries: one column of leaf hashes
abbrev pub log_dimensions : ℕ → List Dimensions
log_dimensions size = record { width = 1; height = size } ∷ []

-- the tree of so many entries: of arity 2, over this column
abbrev pub log_shape : ℕ → Shape
log_shape size = shape_of 2 (log_dimensions size)

-- a node of the log's tree as a slot of the tree of arity 2: the layer, and the slot in it
abbrev pub slot_of : NodeId → ℕ × ℕ
slot_of node = (node.layer, node.slot)

-- the slot of each of these nodes, in order
abbrev pub slots_of : List NodeId → List (ℕ × ℕ)
slots_of nodes = map slot_of nodes

-- slots of the tree of arity 2, each a layer and a slot in it, as nodes of the log's tree
abbrev pub nodes_at : List (ℕ × ℕ) → List NodeId
nodes_at slots = map (λ (layer, slot). id_of layer slot) slots

-- what openings of a log of so many entries are checked against: the cap is the root
abbrev pub log_params : HashFunction → ℕ → Params Node Node
log_params hash size = params (log_functions hash) (log_shape size) (levels (log_shape size))

-- the cap of one root
abbrev pub root_cap : List ℕ → List (List Node)
root_cap root = (Hash root ∷ []) ∷ []

-- the row set of an entry: one row, which has its leaf hash alone
abbrev pub leaf_row_set : List ℕ → List (List Node)
leaf_row_set leaf = (Hash leaf ∷ []) ∷ []

-- the hash of a word, if there is one
abbrev pub hash_in : Node → List (List ℕ)
hash_in (Hash value) = value ∷ []
hash_in Absent = []

-- the hashes of the digests that are there
abbrev pub present : List (List Node) → List (List ℕ)
present digests = flat_map (λ digest. flat_map hash_in digest) digests

-- a digest of slot j of layer l in a log of so many entries: one hash where the slot has entries below it, else absent
pub record IsLogDigest (size l j : ℕ) (digest : List Node) : Type 0 where
  pub node : j * 2 ^ l < size → (value : List ℕ) × (digest ≡ Hash value ∷ [])
  pub padding : size ≤ j * 2 ^ l → digest ≡ Absent ∷ []

-- a digest for each of these slots (layer, slot), in order
abbrev pub AreLogDigests : ℕ → List (ℕ × ℕ) → List (List Node) → Type 0
AreLogDigests size [] [] = Unit {0}
AreLogDigests size ((l, j) ∷ slots) (digest ∷ digests) = IsLogDigest size l j digest × AreLogDigests size slots digests
AreLogDigests size slots digests = ⊥

-- the slot of the sibling of leaf i's ancestor in layer l
abbrev pub sibling_slot : ℕ → ℕ → ℕ
sibling_slot i l = 2 * (i / 2 ^ suc l) + (1 - i / 2 ^ l % 2)

-- a digest for each sibling of leaf i up to the root
pub record IsLogPath (size i : ℕ) (path : List (List Node)) : Type 0 where
  pub count : length path ≡ levels (log_shape size)
  pub each : (l : ℕ) → l < levels (log_shape size) →
      IsLogDigest size l (sibling_slot i l) (slice_index_or path l [])

-- a log's leaf hashes as a matrix of one column
abbrev pub log_batch : List (List ℕ) → Batch Node
log_batch leaves = record {
  arity = 2;
  matrices =
      record {
        height = length leaves;
        width = 1;
        row = λ i. Hash (slice_index_or leaves i []) ∷ [];
      } ∷ [];
}
