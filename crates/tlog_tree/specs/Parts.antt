-- Trees of logs in parts.
use Rattle.std.specs.Prelude.{◌≡◌, ◌≤◌, ◌^◌, ℕ, List, [], ◌∷◌, length, map}
use Rattle.std.specs.List.{flat_map}
use Rattle.tlog.specs.Rfc9162.{Hash}
use Rattle.tlog_tree.specs.Trees.{leaves_root}

-- sizes of parts: each but the last is this one, and the last from 1 to it
abbrev pub HaveSize : ℕ → List ℕ → Type 0
HaveSize size [] = Unit {0}
HaveSize size (last ∷ []) = (1 ≤ last) × (last ≤ size)
HaveSize size (part ∷ next ∷ parts) = (part ≡ size) × HaveSize size (next ∷ parts)

-- the root of the roots of parts is that of all their leaf hashes, if the parts have the size of a whole node
abbrev pub RootIsOfParts : Type 0
RootIsOfParts =
    (hash : Hash) (power : ℕ) (parts : List (List (List ℕ))) → HaveSize (2 ^ power) (map (λ part. length part) parts) →
    leaves_root hash (map (leaves_root hash) parts) ≡ leaves_root hash (flat_map (λ part. part) parts)
