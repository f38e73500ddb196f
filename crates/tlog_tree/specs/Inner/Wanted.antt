-- What becomes of a wanted node as a log grows.
use Rattle.std.specs.Prelude.{ℕ, ◌+◌, ◌-◌, ◌*◌, ◌^◌, ◌==◌, nat_lt, nat_le, Bool, true, false, ◌&&◌, List, [], length}
use Rattle.std.specs.Prelude.{slice_index_or}
use Rattle.tlog.specs.Rfc9162.{Hash}
use Rattle.tlog_tree.specs.Trees.{node_at}
use Rattle.tlog_tree.specs.declared.wanted.WantedNode.{WantedNode}

-- with this value, if it has come
abbrev pub with_value : Bool → List ℕ → WantedNode → WantedNode
with_value true value w = record w { value = value }
with_value false value w = w

-- whether the last of some nodes has come with those from `size` on, up to `count`
abbrev pub is_new : ℕ → ℕ → ℕ → Bool
is_new size count end = nat_lt size end && nat_le end count

-- a node, with its value if it is one of these, which stand in a layer from slot `first` on
abbrev pub kept_in : ℕ → ℕ → List (List ℕ) → WantedNode → WantedNode
kept_in layer first nodes w =
    with_value ((w.id.layer == layer) && is_new first (first + length nodes) (w.id.slot + 1))
    (slice_index_or nodes (w.id.slot - first) []) w

-- with its value, if it is in this layer or above, and the last of its nodes of this layer has come after the first
-- `size`
abbrev pub updated : Hash → ℕ → ℕ → List (List ℕ) → WantedNode → WantedNode
updated hash layer size nodes w =
    with_value (nat_le layer w.id.layer && is_new size (length nodes) ((w.id.slot + 1) * 2 ^ (w.id.layer - layer)))
    (node_at hash nodes (w.id.layer - layer) w.id.slot) w
