use Rattle.std.proofs.Common.{◌≡◌, ℕ, ◌-◌, ◌∷◌, [], map, replicate, slice_index_or}
use Rattle.std.specs.List.{range_with_len}
use Rattle.p3_merkle_hashing.proofs.nodes.stage_pairs.Given as goal

-- the groups so far are staged
abbrev pub invariant-loop-j : goal.invariant-loop-j
invariant-loop-j g l = l.pairs.items
    ≡ map (λ (j : ℕ). slice_index_or l.folded j [] ∷ slice_index_or l.rows j []
    ∷ replicate (g.row.N - 2) l.default_digest) (range_with_len 0 l.j)
