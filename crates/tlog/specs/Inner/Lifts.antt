-- Digests that lead from a node to the root, as the tree grows.
use Rattle.std.specs.Prelude.{◌≡◌, ℕ, List, Some}
use Rattle.tlog.specs.Climbs.{climb_end}
use Rattle.tlog.specs.Rfc9162.{Hash}

-- `out` leads from a node (in layer t at `node`, of this value) to the root of `new` entries, if `digests` lead from it
-- to the root of `size` entries, and `growth`, from the last whole node of these (in layer u at `edge`), leads to both
-- roots
pub record Lifts (hash : Hash) (size new t node : ℕ) (value : List ℕ) (digests : List (List ℕ)) (u edge : ℕ)
    (start : List ℕ) (growth out : List (List ℕ)) : Type 0 where
  pub lift : (o m w : List ℕ) → climb_end hash t node size value digests ≡ Some (0, o, m) →
      climb_end hash u edge new start growth ≡ Some (0, m, w) → climb_end hash t node new value out ≡ Some (0, o, w)
