-- Each turn compresses the digests of one call with those of their rows.
use Rattle.std.proofs.Common.{◌≡◌, ℕ, ◌≤◌, ◌-◌, ◌∷◌, [], length, replicate, slice_index_or}
use Rattle.p3_merkle_hashing.specs.Inner.Slots.{IsFilled}
use Rattle.p3_merkle_hashing.proofs.nodes.inject_row_digests.Given as goal

-- the slots so far are compressed once more, and the others are as they were
abbrev pub invariant-loop-first : goal.invariant-loop-first
invariant-loop-first g l =
    let joined = λ (j : ℕ). g.C.PseudoCompressionFunction.compression l.compress
    (slice_index_or l.initial.slots j [] ∷ slice_index_or l.rows j []
    ∷ replicate (g.row.N - 2) (replicate g.row.D g.PW.PackedValue.default_value)) in
    (l.first ≤ length l.rows)
    × IsFilled joined l.first (length l.initial.slots) l.slots
    × ((j : ℕ) → l.first ≤ j → slice_index_or l.slots j [] ≡ slice_index_or l.initial.slots j [])

abbrev pub decreases-loop-first : goal.decreases-loop-first
decreases-loop-first g l = length l.rows - l.first
