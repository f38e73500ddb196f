use Rattle.std.proofs.Common.{◌≡◌, ◌++◌, filter, map, not, take}
use Rattle.p3_support.specs.Lists.{is_among}
use Rattle.tlog_tree.specs.Trees.{id_of}
use Rattle.tlog_multiproof.specs.Inner.Siblings.{sibling}
use Rattle.tlog_multiproof.proofs.opening.push_siblings.Given as goal

-- the siblings so far
abbrev pub invariant-loop-slot : goal.invariant-loop-slot
invariant-loop-slot l =
    l.nodes.items ≡ l.fn.nodes.items ++ map (id_of l.layer)
    (filter (λ j. not (is_among l.covered j)) (map sibling (take l.slot-index l.covered)))
