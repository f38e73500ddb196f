use Rattle.std.proofs.Common.{◌≡◌, ◌≤◌, length}
use Rattle.p3_merkle_core.proofs.Pruned.SortedFacts.{IsSlotted}
use Rattle.p3_merkle_core.proofs.pruning.distinct_slots.Given as goal

-- the distinct indices so far with the slots of their queries, and the capacity for more
abbrev pub invariant-loop-position : goal.invariant-loop-position
invariant-loop-position l = record {
  slotted : IsSlotted l.sorted (length l.indices) l.position l.previous l.distinct.items l.slots.items;
  capacity : (l.distinct.len ≤ l.position) × (l.distinct.cap ≡ length l.sorted);
}
