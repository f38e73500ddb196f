-- Nodes and their children, which calls that no public contract mentions use.
use Rattle.std.specs.Prelude.{◌≡◌, ℕ, List}
use Rattle.tlog.specs.Rfc9162.{Hash, node_hash}

-- of two nodes: equal hashes mean equal children
abbrev pub HashFixesChildren : Hash → List ℕ → List ℕ → List ℕ → List ℕ → Type 0
HashFixesChildren hash left right other_left other_right =
    node_hash hash left right ≡ node_hash hash other_left other_right → (left ≡ other_left) × (right ≡ other_right)
