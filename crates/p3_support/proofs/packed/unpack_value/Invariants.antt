use Rattle.std.proofs.Common.{◌≡◌, ℕ, ◌<◌, ◌≤◌, length, slice_index_or, slice_set, []}
use Rattle.p3_support.proofs.packed.unpack_value.Given as goal

abbrev pub invariant-loop-k : goal.invariant-loop-k
invariant-loop-k g l =
    (length l.rows ≡ length l.initial.rows)
    × ((j : ℕ) → j < l.k → slice_index_or l.rows j []
    ≡ slice_set (slice_index_or l.initial.rows j []) l.e
    (slice_index_or (g.PW.PackedValue.lanes l.value) j g.PW.PackedValue.default_value))
    × ((j : ℕ) → l.k ≤ j → slice_index_or l.rows j [] ≡ slice_index_or l.initial.rows j [])
