-- Digests of rows, of groups of children, and of both.
use Rattle.std.specs.Prelude.{ℕ, ◌*◌, ◌/◌, Bool, if◌then◌else◌, List, map, [], ◌∷◌, length, take, drop, zip}
use Rattle.std.specs.Prelude.{slice_index_or}
use Rattle.std.specs.List.{range_with_len}
use Rattle.p3_merkle_core.specs.Checks.{words_of_exponent}
use Rattle.p3_merkle_core.specs.Nodes.{Functions, padded}

-- group k of some children, step of them in each, with default digests up to n
abbrev pub child_group : {W : Type 0} → ℕ → List W → ℕ → List (List W) → ℕ → List (List W)
child_group n default_digest step children k = padded n default_digest (take step (drop (step * k) children))

-- the digest of this group
abbrev pub group_digest : {W : Type 0} → (List (List W) → List W) → ℕ → List W → ℕ → List (List W) → ℕ → List W
group_digest compression n default_digest step children k = compression (child_group n default_digest step children k)

-- the digest of a node's children beside that of its rows, with default digests up to n
abbrev pub digest_pair : {W : Type 0} → ℕ → List W → List W × List W → List (List W)
digest_pair n default_digest pair = padded n default_digest (pair.0 ∷ pair.1 ∷ [])

-- the digest of this pair
abbrev pub pair_digest : {W : Type 0} → (List (List W) → List W) → ℕ → List W → List W × List W → List W
pair_digest compression n default_digest pair = compression (digest_pair n default_digest pair)

-- the digest of the rows of query k, of the matrices of this exponent
abbrev pub query_digest : {T W : Type 0} → (List T → List W) → ℕ → List ℕ → List (List (List T)) → ℕ → List W
query_digest hash exponent heights sets k = hash (words_of_exponent exponent (zip heights (slice_index_or sets k [])))

-- the digests of a layer's covered nodes: of the groups of children, each compressed once more with that of its rows
-- where the layer has any
abbrev pub layer_digests : {T W : Type 0} → Functions T W → ℕ → ℕ → Bool → List (List W) → List (List W) →
    List (List W)
layer_digests f n step has rows children =
    let nodes = map (group_digest f.compression n f.default_digest step children)
    (range_with_len 0 (length children / step)) in
    if has then map (pair_digest f.compression n f.default_digest) (zip nodes rows) else nodes
