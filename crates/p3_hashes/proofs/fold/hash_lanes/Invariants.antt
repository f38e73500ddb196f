use Rattle.std.proofs.Common.{◌≡◌, ℕ, ◌<◌}
use Rattle.p3_hashes.specs.Fold.{fold_hash}
use Rattle.p3_support.specs.Lists.{lane_of}
use Rattle.p3_hashes.proofs.fold.hash_lanes.Given as goal

abbrev pub invariant-loop-word : goal.invariant-loop-word
invariant-loop-word g l = (k : ℕ) → k < g.P.PackedValue.WIDTH
    → lane_of g.P.PackedValue.lanes g.P.PackedValue.default_value k l.state
    ≡ fold_hash g.row.D (lane_of g.P.PackedValue.lanes g.P.PackedValue.default_value k l.yielded)
