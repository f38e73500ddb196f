use Rattle.std.proofs.Common.{◌≡◌, ℕ, List, ◌++◌, All, length, map}
use Rattle.std.specs.List.{range_with_len}
use Rattle.tlog_tree.specs.Inner.Leaves.{IsHashed, IsPlaceOf}
use Rattle.tlog_tree.proofs.Leaves.{place_of}
use Rattle.tlog_tree.proofs.leaf.leaf_hashes.Given as goal

abbrev pub invariant-loop-index : goal.invariant-loop-index
invariant-loop-index l =
    l.by_length.items ≡ map (place_of (map (λ entry. entry.now) l.entries)) (range_with_len 0 l.index)

abbrev pub invariant-loop-rest : goal.invariant-loop-rest
invariant-loop-rest l = record {
  room : length l.hashes.items ≡ length l.entries;
  own : All (IsPlaceOf (map (λ entry. entry.now) l.entries)) l.rest;
  hashed : (done : List (ℕ × ℕ)) × (l.initial.rest ≡ done ++ l.rest)
      × All (λ (place : ℕ × ℕ). IsHashed (map (λ entry. entry.now) l.entries) l.hashes.items place.1) done;
}

abbrev pub decreases-loop-rest : goal.decreases-loop-rest
decreases-loop-rest l = length l.rest
