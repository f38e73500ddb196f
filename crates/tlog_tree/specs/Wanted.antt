-- When a wanted node comes, and its value.
use Rattle.std.specs.Prelude.{◌≡◌, ℕ, ◌+◌, ◌*◌, ◌^◌, ◌≤◌, List, length, min}
use Rattle.tlog.specs.Rfc9162.{Hash}
use Rattle.tlog.specs.Verdicts.{size_limit}
use Rattle.tlog_tree.specs.Trees.{node_at}
use Rattle.tlog_tree.specs.declared.wanted.WantedNode.{WantedNode}

-- how many leaves a log has once the last one below a node has come; one more than a log has at most, if no log has so
-- many
abbrev pub end_of : WantedNode → ℕ
end_of node = min ((node.id.slot + 1) * 2 ^ node.id.layer) (size_limit + 1)

-- it has its value, if its leaves have all come
abbrev pub HasValue : Hash → List (List ℕ) → WantedNode → Type 0
HasValue hash leaves node =
    (node.id.slot + 1) * 2 ^ node.id.layer ≤ length leaves → node.value ≡ node_at hash leaves node.id.layer node.id.slot
