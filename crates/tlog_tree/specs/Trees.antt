-- The trees of logs that grow, by their leaf hashes.
use Rattle.std.specs.Prelude.{ℕ, zero, suc, ◌+◌, ◌*◌, ◌^◌, nat_lt, List, [], ◌∷◌, length, take, drop}
use Rattle.std.specs.Prelude.{Option, Some, None, map, if◌then◌else◌}
use Rattle.tlog.specs.Rfc9162.{Hash, mth, split}
use Rattle.tlog_tree.specs.declared.node_id.NodeId.{NodeId}

-- MTH of leaf hashes
abbrev pub leaves_root : Hash → List (List ℕ) → List ℕ
leaves_root hash leaves = mth hash (λ leaf. leaf) leaves

-- the whole nodes, from left to right: the root of the first leaves, as many as the largest power of two that is not
-- above their number, then the whole nodes of the leaves after these. There are no more than leaves.
unfoldable pub whole_within : ℕ → Hash → List (List ℕ) → List (List ℕ)
whole_within zero hash leaves = []
whole_within (suc depth) hash [] = []
whole_within (suc depth) hash (d ∷ rest) =
    let k = split (length (d ∷ rest) + 1) in
    leaves_root hash (take k (d ∷ rest)) ∷ whole_within depth hash (drop k (d ∷ rest))

abbrev pub whole_nodes : Hash → List (List ℕ) → List (List ℕ)
whole_nodes hash leaves = whole_within (length leaves) hash leaves

-- ---- nodes by layer and slot: layer 0 has the leaf hashes, and each node 2^layer leaves, from slot · 2^layer on

-- the node of this layer and slot
abbrev pub id_of : ℕ → ℕ → NodeId
id_of layer slot = record { layer = layer; slot = slot }

-- MTH of the leaves below a node
abbrev pub node_at : Hash → List (List ℕ) → ℕ → ℕ → List ℕ
node_at hash leaves layer slot = leaves_root hash (take (2 ^ layer) (drop (slot * 2 ^ layer) leaves))

-- the value of a node, if it has leaves. One that the end cuts off has the value that is passed on.
abbrev pub value_at : Hash → List (List ℕ) → NodeId → Option (List ℕ)
value_at hash leaves node =
    if nat_lt (node.slot * 2 ^ node.layer) (length leaves) then Some (node_at hash leaves node.layer node.slot)
    else None

-- the values of nodes
abbrev pub values_at : Hash → List (List ℕ) → List NodeId → List (Option (List ℕ))
values_at hash leaves nodes = map (value_at hash leaves) nodes

-- digests that are all there
abbrev pub all_there : List (List ℕ) → List (Option (List ℕ))
all_there digests = map (λ (digest : List ℕ). Some digest) digests
