use Rattle.std.proofs.Common.{◌≡◌}
use Rattle.p3_merkle_core.proofs.covered_nodes.Covered.boundary_len.Given as goal

-- the same queries, on the layer that is reached
abbrev pub invariant-loop : goal.invariant-loop
invariant-loop l = record {
  schedule : l.self.schedule.now ≡ l.fn.self.schedule.now;
  indices : l.self.indices.now ≡ l.fn.self.indices.now;
  layer : l.self.layer ≡ l.counter;
}
