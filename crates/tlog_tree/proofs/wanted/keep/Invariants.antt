use Rattle.std.proofs.Common.{◌≡◌, ◌++◌, take, drop, map}
use Rattle.tlog_tree.specs.Inner.Wanted.{kept_in}
use Rattle.tlog_tree.proofs.wanted.keep.Given as goal

abbrev pub invariant-loop-node : goal.invariant-loop-node
invariant-loop-node l =
    l.wanted ≡ map (kept_in l.layer l.first l.nodes) (take l.node-index l.initial.wanted)
    ++ drop l.node-index l.initial.wanted
