use Rattle.std.proofs.Common.{◌≡◌, ℕ, ◌<◌, ◌≤◌, length, slice_index_or}
use Rattle.p3_hashes.specs.Fold.{mix_in}
use Rattle.p3_support.specs.Lists.{lane_of}
use Rattle.p3_hashes.proofs.fold.mix.Given as goal

abbrev pub invariant-loop-e : goal.invariant-loop-e
invariant-loop-e g l =
    let of = lane_of g.P.PackedValue.lanes g.P.PackedValue.default_value in
    (length l.digest ≡ length l.initial.digest)
    × ((k j : ℕ) → k < g.P.PackedValue.WIDTH → j < l.e → slice_index_or (of k l.digest) j 0
    ≡ mix_in (slice_index_or (of k l.initial.digest) j 0) (l.place, slice_index_or (of k l.child) j 0))
    × ((k j : ℕ) → l.e ≤ j → slice_index_or (of k l.digest) j 0 ≡ slice_index_or (of k l.initial.digest) j 0)
