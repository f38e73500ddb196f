-- What is computed of a layer's nodes.
use Rattle.std.specs.Prelude.{zero, suc, List, [], ◌∷◌, ℕ, Option, Some, None}
use Rattle.tlog.specs.Rfc9162.{Hash, node_hash}
use Rattle.tlog_tree.specs.Trees.{leaves_root}

-- the root by the whole nodes: of none HASH(), of one itself, of more the hash of the first and the root of the others
abbrev pub joined : Hash → List (List ℕ) → List ℕ
joined hash [] = hash []
joined hash (node ∷ []) = node
joined hash (node ∷ (next ∷ rest)) = node_hash hash node (joined hash (next ∷ rest))

-- the parents of the nodes of a layer, but for a last one without a sibling
abbrev pub parents_of : Hash → List (List ℕ) → List (List ℕ)
parents_of hash [] = []
parents_of hash (node ∷ []) = []
parents_of hash (left ∷ (right ∷ rest)) = node_hash hash left right ∷ parents_of hash rest

-- the root of leaves, if there are any
abbrev pub root_of_rest : Hash → List (List ℕ) → Option (List ℕ)
root_of_rest hash [] = None
root_of_rest hash (leaf ∷ rest) = Some (leaves_root hash (leaf ∷ rest))

-- the layer above: each pair is hashed, an only child is passed on
abbrev pub above_of : Hash → List (List ℕ) → List (List ℕ)
above_of hash [] = []
above_of hash (node ∷ []) = node ∷ []
above_of hash (left ∷ (right ∷ rest)) = node_hash hash left right ∷ above_of hash rest

-- the nodes of a layer
unfoldable pub layer_of : Hash → ℕ → List (List ℕ) → List (List ℕ)
layer_of hash zero leaves = leaves
layer_of hash (suc layer) leaves = layer_of hash layer (above_of hash leaves)
