use Rattle.std.proofs.Common.{◌≡◌, ◌-◌, ◌/◌, ◌^◌, ◌≤◌}
use Rattle.p3_merkle_core.specs.Geometry.{levels}
use Rattle.p3_merkle_core.specs.Inner.Covered.{covered_at}
use Rattle.p3_merkle_core.specs.Pruning.{boundary}
use Rattle.tlog_multiproof.specs.Instance.{log_shape, slots_of}
use Rattle.tlog_multiproof.proofs.opening.boundary_nodes.Given as goal

-- the layer that is reached: its covered slots and its last node, and the boundary below it
abbrev pub invariant-loop-last : goal.invariant-loop-last
invariant-loop-last l = record {
  covered : l.covered.items ≡ covered_at (log_shape l.size) l.indices l.layer;
  so_far : slots_of l.nodes.items ≡ boundary (log_shape l.size) l.indices l.layer;
  low : l.layer ≤ levels (log_shape l.size);
  last_is : l.last ≡ (l.size - 1) / 2 ^ l.layer;
}

abbrev pub decreases-loop-last : goal.decreases-loop-last
decreases-loop-last l = l.last
