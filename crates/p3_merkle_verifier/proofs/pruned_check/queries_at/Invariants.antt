use Rattle.std.proofs.Common.{◌≡◌, ◌<◌, ◌≤◌, ◌/◌, ◌-◌, ◌^◌, All, eqb, get_or, length, map, take}
use Rattle.std.specs.List.{dedup}
use Rattle.p3_merkle_verifier.specs.Inner.RestoredLevels.{node_of_query, tree_of}
use Rattle.p3_merkle_verifier.proofs.pruned_check.queries_at.Given as goal

-- the first queries under the nodes so far, the last of these nodes, and the capacity for more
abbrev pub invariant-loop-slot : goal.invariant-loop-slot
invariant-loop-slot g l =
    let indices = l.restorable.opening.indices.now in
    let node = node_of_query (tree_of l.restorable) indices 0 in
    let leaves = l.restorable.leaves.indices.items in
    record {
      under : map (λ k. node k / 2 ^ l.bits) l.queries.items ≡ dedup eqb (take l.slot (map
          (λ j. j / 2 ^ l.bits) leaves));
      among : All (λ k. k < length indices) l.queries.items;
      before : 0 < l.slot → l.previous ≡ get_or leaves (l.slot - 1) 0 / 2 ^ l.bits;
      capacity : (l.queries.len ≤ l.slot) × (l.queries.cap ≡ length leaves);
    }
