use Rattle.std.proofs.Common.{◌≡◌, ℕ, ◌<◌}
use Rattle.p3_support.specs.Lists.{lane_of}
use Rattle.p3_support.proofs.packed.pack_columns_fn.Given as goal

abbrev pub invariant-loop-k : goal.invariant-loop-k
invariant-loop-k g l = (j : ℕ) → j < l.k → (x : g.row.X.Denot) × goal.F-post g l.f j x ×
    (lane_of g.PW.PackedValue.lanes g.PW.PackedValue.default_value j l.packed ≡ g.X.AsSlice.items x)
