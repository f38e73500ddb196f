use Rattle.std.proofs.Common.{◌≡◌, ℕ, ◌+◌, ◌-◌, ◌*◌, ◌++◌, drop, map, replicate, take}
use Rattle.std.specs.List.{range_with_len}
use Rattle.p3_merkle_hashing.proofs.nodes.stage_children.Given as goal

-- the groups so far are staged
abbrev pub invariant-loop-j : goal.invariant-loop-j
invariant-loop-j g l = l.groups.items
    ≡ map (λ (j : ℕ). take l.step (drop (l.step * (l.first + j)) l.below)
    ++ replicate (g.row.N - l.step) l.default_digest) (range_with_len 0 l.j)
