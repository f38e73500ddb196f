use Rattle.std.proofs.Common.{◌≡◌, filter, take}
use Rattle.tlog_multiproof.specs.Entries.{is_node}
use Rattle.tlog_multiproof.specs.Instance.{slot_of}
use Rattle.tlog_multiproof.proofs.opening.entry_nodes.Given as goal

-- those so far of which the log has entries
abbrev pub invariant-loop-node : goal.invariant-loop-node
invariant-loop-node l = l.nodes.items ≡ filter (λ node. is_node l.size (slot_of node)) (take l.node-index l.node-items)
