-- Each turn writes the slots of one call.
use Rattle.std.proofs.Common.{ℕ, ◌-◌, ◌*◌, ◌≤◌, ◌++◌, drop, length, replicate, take}
use Rattle.p3_merkle_hashing.specs.Inner.Slots.{IsFilled}
use Rattle.p3_merkle_hashing.proofs.nodes.compress_children.Given as goal

-- the slots so far are written, and the children of any are in the layer
abbrev pub invariant-loop-first : goal.invariant-loop-first
invariant-loop-first g l =
    let folded = λ (j : ℕ). g.C.PseudoCompressionFunction.compression l.compress
    (take l.step (drop (l.step * j) l.below)
    ++ replicate (g.row.N - l.step) (replicate g.row.D g.PW.PackedValue.default_value)) in
    (l.first ≤ length l.initial.slots) × IsFilled folded l.first (length l.initial.slots) l.slots
    × ((n : ℕ) → n ≤ length l.initial.slots → l.step * n ≤ length l.below)

abbrev pub decreases-loop-first : goal.decreases-loop-first
decreases-loop-first g l = length l.initial.slots - l.first
