-- What roots and accepted proofs fix, but for collisions of the hash function.
use Rattle.std.specs.Prelude.{◌≡◌, ◌≤◌, ℕ, List, [], length, slice_index_or, take}
use Rattle.tlog.specs.Rfc9162.{Hash, leaf_hash, root_of}
use Rattle.tlog.specs.Verdicts.{IsConsistent, IsIncluded, size_limit}

-- two accepted proofs of one index, size and root are of one leaf hash, and have the same digests
abbrev pub RootFixesProof : Hash → ℕ → ℕ → List ℕ → List (List ℕ) → List ℕ → List (List ℕ) → List ℕ → Type 0
RootFixesProof hash index size leaf path other_leaf other_path root =
    size ≤ size_limit → IsIncluded hash index size leaf path root →
    IsIncluded hash index size other_leaf other_path root → (leaf ≡ other_leaf) × (path ≡ other_path)

-- two accepted proofs of consistency between the same sizes to one new root are from one old root, and have the same
-- digests
abbrev pub NewRootFixesProof : Hash → ℕ → ℕ → List ℕ → List (List ℕ) → List ℕ → List (List ℕ) → List ℕ → Type 0
NewRootFixesProof hash old new old_root path other_root other_path new_root =
    new ≤ size_limit → IsConsistent hash old new path old_root new_root →
    IsConsistent hash old new other_path other_root new_root → (old_root ≡ other_root) × (path ≡ other_path)

-- a leaf hash that is accepted of an index under an old root is that which is accepted of it under a new root, to which
-- a proof of consistency leads from the old one
abbrev pub GrowthKeepsLeaf : Hash → ℕ → ℕ → ℕ → List ℕ → List (List ℕ) → List ℕ → List (List ℕ) → List (List ℕ) →
    List ℕ → List ℕ → Type 0
GrowthKeepsLeaf hash index old new old_leaf old_path new_leaf new_path growth old_root new_root =
    new ≤ size_limit → IsIncluded hash index old old_leaf old_path old_root →
    IsIncluded hash index new new_leaf new_path new_root → IsConsistent hash old new growth old_root new_root →
    old_leaf ≡ new_leaf

-- a leaf hash that is accepted under MTH(D) is that of D's entry
abbrev pub RootFixesLeaf : Hash → List (List ℕ) → ℕ → List ℕ → List (List ℕ) → Type 0
RootFixesLeaf hash D index leaf path =
    length D ≤ size_limit → IsIncluded hash index (length D) leaf path (root_of hash D) →
    leaf ≡ leaf_hash hash (slice_index_or D index [])

-- an entry whose leaf hash is accepted under MTH(D) is D's entry
abbrev pub RootFixesEntry : Hash → List (List ℕ) → ℕ → List ℕ → List (List ℕ) → Type 0
RootFixesEntry hash D index entry path =
    length D ≤ size_limit → IsIncluded hash index (length D) (leaf_hash hash entry) path (root_of hash D) →
    entry ≡ slice_index_or D index []

-- where a proof is accepted from MTH(D) to MTH(E), E begins with D
abbrev pub RootsFixPrefix : Hash → List (List ℕ) → List (List ℕ) → List (List ℕ) → Type 0
RootsFixPrefix hash D E path =
    length E ≤ size_limit → IsConsistent hash (length D) (length E) path (root_of hash D) (root_of hash E) →
    D ≡ take (length D) E
