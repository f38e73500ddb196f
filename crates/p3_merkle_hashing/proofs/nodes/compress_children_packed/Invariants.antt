use Rattle.std.proofs.Common.{◌≡◌, ℕ, ◌+◌, ◌*◌, ◌<◌, ◌++◌, length, take, drop, map}
use Rattle.p3_support.specs.Lists.{lane_of}
use Rattle.p3_merkle_hashing.proofs.nodes.compress_children_packed.Given as goal

-- the children so far are in their places
abbrev pub invariant-loop-n : goal.invariant-loop-n
invariant-loop-n g l =
    (length l.group ≡ length l.initial.group)
    × ((k : ℕ) → k < g.PW.PackedValue.WIDTH →
    let lane = lane_of g.PW.PackedValue.lanes g.PW.PackedValue.default_value k in
    map lane l.group ≡ take l.n (take l.step (drop (l.step * (l.first + k)) l.below))
    ++ drop l.n (map lane l.initial.group))
