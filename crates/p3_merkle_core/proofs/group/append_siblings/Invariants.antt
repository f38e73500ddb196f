use Rattle.std.proofs.Common.{◌≡◌, ◌≤◌, ◌-◌, ◌++◌, take}
use Rattle.std.specs.List.{remove}
use Rattle.p3_merkle_core.proofs.group.append_siblings.Given as goal

-- the others so far: below `place`, one less than all
abbrev pub invariant-loop-place : goal.invariant-loop-place
invariant-loop-place g l = record {
  begun : 1 ≤ l.place;
  so_far : l.digests.items ≡ l.initial.digests.items ++ take (l.place - 1) (remove l.group l.position);
}
