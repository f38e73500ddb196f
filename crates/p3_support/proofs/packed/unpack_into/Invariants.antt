use Rattle.std.proofs.Common.{◌≡◌, ℕ, ◌<◌, length, slice_index_or, []}
use Rattle.p3_support.specs.Lists.{lane_of}
use Rattle.p3_support.proofs.packed.unpack_into.Given as goal

abbrev pub invariant-loop-e : goal.invariant-loop-e
invariant-loop-e g l =
    let zero = g.PW.PackedValue.default_value in
    (length l.rows ≡ length l.initial.rows)
    × ((k : ℕ) → k < g.PW.PackedValue.WIDTH → length (slice_index_or l.rows k []) ≡ g.row.D)
    × ((k : ℕ) → k < g.PW.PackedValue.WIDTH → (j : ℕ) → j < l.e → slice_index_or (slice_index_or l.rows k []) j zero
    ≡ slice_index_or (lane_of g.PW.PackedValue.lanes zero k l.packed) j zero)
