use Rattle.std.proofs.Common.{◌≡◌, ℕ, ◌<◌, length, map, take, slice_index_or}
use Rattle.std.specs.List.{fold}
use Rattle.p3_hashes.specs.Fold.{mix_in, placed_elements}
use Rattle.p3_support.specs.Lists.{lane_of}
use Rattle.p3_hashes.proofs.fold.compress_lanes.Given as goal

abbrev pub invariant-loop-i : goal.invariant-loop-i
invariant-loop-i g l =
    (length l.digest ≡ g.row.D)
    × ((k e : ℕ) → k < g.P.PackedValue.WIDTH → e < g.row.D →
    let of = lane_of g.P.PackedValue.lanes g.P.PackedValue.default_value k in
    slice_index_or (of l.digest) e 0 ≡ fold mix_in 0 (placed_elements e (take l.i (map of l.children))))
