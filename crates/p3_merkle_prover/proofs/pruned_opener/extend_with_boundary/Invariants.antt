use Rattle.std.proofs.Common.{◌≡◌, ◌++◌, ◌≤◌, length}
use Rattle.p3_merkle_prover.proofs.BoundaryFacts.{IsGone, others_below}
use Rattle.p3_merkle_prover.proofs.pruned_opener.extend_with_boundary.Given as goal

-- what lies below `next` is done with, and the digests of the boundary there are added
abbrev pub invariant-loop-place : goal.invariant-loop-place
invariant-loop-place g l = record {
  gone : IsGone l.covered l.step l.place l.next;
  inside : l.next ≤ length l.layer;
  so_far : (d : g.row.X.Denot) → l.digests.items
      ≡ l.initial.digests.items ++ others_below l.layer l.covered l.step l.next d;
}
