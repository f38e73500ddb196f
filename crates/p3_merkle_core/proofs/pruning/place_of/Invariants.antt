use Rattle.std.proofs.Common.{◌<◌, ◌≤◌, ◌-◌, length}
use Rattle.p3_merkle_core.specs.Inner.Children.{place_among}
use Rattle.p3_merkle_core.proofs.pruning.place_of.Given as goal

-- the search is not past the place, which is there
abbrev pub invariant-loop-place : goal.invariant-loop-place
invariant-loop-place l = record {
  not_past : l.place ≤ place_among l.nodes l.node;
  inside : place_among l.nodes l.node < length l.nodes;
}

abbrev pub decreases-loop-place : goal.decreases-loop-place
decreases-loop-place l = length l.nodes - l.place
