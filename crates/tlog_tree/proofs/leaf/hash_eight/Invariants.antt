use Rattle.std.proofs.Common.{◌≡◌, map, take}
use Rattle.std.specs.List.{flat_map}
use Rattle.tlog_tree.proofs.Leaves.{padded_input}
use Rattle.tlog_tree.proofs.leaf.hash_eight.Given as goal

abbrev pub invariant-loop-index : goal.invariant-loop-index
invariant-loop-index l =
    l.blocks.items
    ≡ flat_map (λ x. x) (map (padded_input (map (λ entry. entry.now) l.entries)) (take l.index-index l.places))
