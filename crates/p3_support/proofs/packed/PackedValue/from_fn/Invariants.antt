use Rattle.std.proofs.Common.{ℕ, ◌<◌, slice_index_or}
use Rattle.p3_support.proofs.packed.PackedValue.from_fn.Given as goal

abbrev pub invariant-loop-k : goal.invariant-loop-k
invariant-loop-k g l = (j : ℕ) → j < l.k →
    goal.F-post g l.f j (slice_index_or (g.Self.PackedValue.lanes l.packed) j g.Self.PackedValue.default_value)
