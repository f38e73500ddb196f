-- The way up from a node to the root.
use Rattle.std.specs.Prelude.{◌≡◌, ℕ, ◌-◌, ◌/◌, ◌^◌, ◌<◌, true, false, List, ◌∷◌, length, Option}
use Rattle.std.specs.Int.{w64, trailing_ones, is_power_of_two}
use Rattle.tlog.specs.Rfc9162.{Hash, consistency_walk}

-- where the walk up from a node of a tree of size entries ends: sn, the last slot of the layer that it reaches, 0 if it
-- reaches the root; and the roots of the entries up to the node's last, and of all. None if digests are left over there
abbrev pub climb_end : Hash → ℕ → ℕ → ℕ → List ℕ → List (List ℕ) → Option (ℕ × List ℕ × List ℕ)
climb_end hash layer node size value digests =
    consistency_walk hash digests node ((size - 1) / 2 ^ layer) value value

-- a proof of consistency, path, begins at this node, with this value, and digests lead on from it: at the last whole
-- node of the old tree, whose value is the old root where it is all of the old tree, and else the first of path
pub record ProofBeginsAt (old : ℕ) (path : List (List ℕ)) (root : List ℕ) (layer node : ℕ) (value : List ℕ)
    (digests : List (List ℕ)) : Type 0 where
  pub some : 0 < length path
  pub at_layer : layer ≡ trailing_ones w64 (old - 1)
  pub at_node : node ≡ (old - 1) / 2 ^ layer
  pub all : is_power_of_two old ≡ true → (value ≡ root) × (digests ≡ path)
  pub part : is_power_of_two old ≡ false → path ≡ value ∷ digests
