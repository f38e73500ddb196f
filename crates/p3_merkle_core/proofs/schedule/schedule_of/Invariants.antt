-- The first loop marks the exponents that matrices have, and each turn of the second takes one step up.
use Rattle.std.proofs.Common.{◌≡◌, ◌<◌, ◌≤◌, ℕ, get_or, length, map, take}
use Rattle.std.specs.List.{range_with_len}
use Rattle.p3_merkle_core.specs.Geometry.{shape_of}
use Rattle.p3_merkle_core.specs.Inner.Exponents.{AreExponents, AreMarked}
use Rattle.p3_merkle_core.specs.Inner.Schedules.{level_step}
use Rattle.p3_support.specs.Batches.{heights_of}
use Rattle.p3_merkle_core.proofs.Shapes.StepFacts.{IsAt}
use Rattle.p3_merkle_core.proofs.Shapes.ExponentFacts.{none}
use Rattle.p3_merkle_core.proofs.schedule.schedule_of.Given as goal

-- the bits tell the exponents of the matrices so far
abbrev pub invariant-loop-matrix : goal.invariant-loop-matrix
invariant-loop-matrix l = AreMarked (take l.matrix-index (heights_of l.dimensions)) l.bits

-- the walk is at a layer, the steps below it are kept, and no other is yet
abbrev pub invariant-loop-matrices : goal.invariant-loop-matrices
invariant-loop-matrices l =
    IsAt (shape_of l.arity l.dimensions) l.num_levels l.exponents.layer ×
    AreExponents (heights_of l.dimensions) l.exponents ×
    (length l.of_level ≡ 64) ×
    (take l.num_levels l.of_level
    ≡ map (level_step (shape_of l.arity l.dimensions)) (range_with_len 0 l.num_levels)) ×
    ((n : ℕ) → l.num_levels ≤ n → n < length l.of_level → get_or l.of_level n none ≡ none)

abbrev pub decreases-loop-matrices : goal.decreases-loop-matrices
decreases-loop-matrices l = l.exponents.layer
