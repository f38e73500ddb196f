-- The outer loop goes over the parents, and the inner one over the children of one parent.
use Rattle.std.proofs.Common.{◌≡◌, ◌+◌, ◌-◌, ◌*◌, length}
use Rattle.p3_merkle_core.specs.Inner.Children.{children_under}
use Rattle.p3_merkle_core.proofs.Covered.ChildFacts.{IsWalked}
use Rattle.p3_merkle_core.proofs.pruning.children_of.Given as goal

-- the values of the children of the parents so far, where `known` children are covered, and the capacity for all
abbrev pub invariant-loop-parent : goal.invariant-loop-parent
invariant-loop-parent g l = record {
  walked : IsWalked l.covered (children_under l.step l.parents) l.digests l.proof_digests (l.step * l.parent-index)
      l.known l.children.items;
  capacity : l.children.cap ≡ l.step * length l.parents;
}

-- and of those of this parent so far
abbrev pub invariant-loop-child : goal.invariant-loop-child
invariant-loop-child g l = record {
  walked : IsWalked l.covered (children_under l.step l.parents) l.digests l.proof_digests
      (l.step * l.parent-index + (l.child - l.first)) l.known l.children.items;
  capacity : l.children.cap ≡ l.step * length l.parents;
}
