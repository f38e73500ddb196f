use Rattle.std.proofs.Common.{◌≡◌, ℕ, ◌<◌, length, slice_index_or}
use Rattle.p3_support.specs.Lists.{lane_of}
use Rattle.p3_support.proofs.packed.set_lane.Given as goal

abbrev pub invariant-loop-e : goal.invariant-loop-e
invariant-loop-e g l =
    let of = λ (j : ℕ). lane_of g.PW.PackedValue.lanes g.PW.PackedValue.default_value j in
    (length l.packed ≡ length l.initial.packed)
    × ((i : ℕ) → i < l.e → slice_index_or (of l.k l.packed) i g.PW.PackedValue.default_value
    ≡ slice_index_or l.column i g.PW.PackedValue.default_value)
    × ((j : ℕ) → (j ≡ l.k → ⊥) → of j l.packed ≡ of j l.initial.packed)
