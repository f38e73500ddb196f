-- The nodes of a log's tree (RFC 9162, 2.1.1), where a slot of a layer without a node is absent.
use Rattle.std.specs.Prelude.{List, [], ◌∷◌, fold}
use Rattle.tlog.specs.Rfc9162.{Hash as HashFunction, node_hash}
use Rattle.tlog_multiproof.specs.declared.tree.Node.{Node}
use Rattle.tlog_multiproof.specs.declared.tree.Node.TheVariants.{Absent, Hash}

-- the parent of two nodes: the hash of both, or the only child
abbrev pub parent : HashFunction → Node → Node → Node
parent hash (Hash left) (Hash right) = Hash (node_hash hash left right)
parent hash left Absent = left
parent hash Absent (Hash right) = Hash right

-- the digest of a group of two digests, each of one word: their parent
abbrev pub parent_digest : HashFunction → List (List Node) → List Node
parent_digest hash ((left ∷ []) ∷ ((right ∷ []) ∷ [])) = parent hash left right ∷ []
parent_digest hash group = Absent ∷ []

-- the digest of a row: its last word, and of the one word of a log's row that word
abbrev pub last_word : List Node → List Node
last_word row = fold (λ before word. word) Absent row ∷ []
