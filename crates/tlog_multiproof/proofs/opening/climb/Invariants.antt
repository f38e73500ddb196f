use Rattle.std.proofs.Common.{◌≡◌, ◌/◌, ◌++◌, take, drop, map}
use Rattle.tlog_multiproof.proofs.opening.climb.Given as goal

-- the parents of the slots so far
abbrev pub invariant-loop-slot : goal.invariant-loop-slot
invariant-loop-slot l =
    l.slot-items ≡ map (λ slot. slot / 2) (take l.slot-index l.fn.covered.items)
    ++ drop l.slot-index l.fn.covered.items
