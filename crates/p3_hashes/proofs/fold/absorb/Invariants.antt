use Rattle.std.proofs.Common.{◌≡◌, ℕ, ◌<◌, length, slice_index_or, map, take, drop, ◌++◌}
use Rattle.p3_hashes.specs.Fold.{take_in}
use Rattle.p3_support.specs.Lists.{lane_of}
use Rattle.p3_hashes.proofs.fold.absorb.Given as goal

abbrev pub invariant-loop-element : goal.invariant-loop-element
invariant-loop-element g l =
    (length l.state ≡ length l.initial.state)
    × ((k : ℕ) → k < g.P.PackedValue.WIDTH →
    let lanes = g.P.PackedValue.lanes in let d = g.P.PackedValue.default_value in
    lane_of lanes d k l.state
    ≡ map (λ s. take_in s (slice_index_or (lanes l.word) k d))
    (take l.element-index (lane_of lanes d k l.initial.state))
    ++ drop l.element-index (lane_of lanes d k l.initial.state))
