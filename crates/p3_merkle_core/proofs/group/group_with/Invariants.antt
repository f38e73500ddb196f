use Rattle.std.proofs.Common.{◌≡◌, ◌++◌, take, drop, insert}
use Rattle.p3_merkle_core.proofs.Lists.GroupFacts.{slot_of}
use Rattle.p3_merkle_core.proofs.group.group_with.Given as goal

-- the first slots are those of the group, and the other siblings still wait
abbrev pub invariant-loop-k : goal.invariant-loop-k
invariant-loop-k g l = l.group ≡ take (slot_of l.position l.k) (insert l.siblings l.position l.fn.digest)
    ++ drop (slot_of l.position l.k) l.initial.group
