-- The first loop adds up the widths, and each turn of the second writes the slots of one call.
use Rattle.std.proofs.Common.{◌≡◌, ℕ, ◌≤◌, ◌+◌, ◌-◌, length, take}
use Rattle.std.specs.Prelude.{sum_by}
use Rattle.p3_merkle_hashing.specs.Inner.Slots.{rows_over, IsFilled}
use Rattle.p3_merkle_hashing.proofs.rows.LayerRows+P+PW+H+M+array+D+PW+Value.fill_batched.Given as goal

-- the widths of the matrices so far
abbrev pub invariant-loop-matrix : goal.invariant-loop-matrix
invariant-loop-matrix g l = l.len ≡ sum_by g.M.Matrix.width_of (take l.matrix-index l.self.matrices.now)

-- the slots so far are written
abbrev pub invariant-loop-done : goal.invariant-loop-done
invariant-loop-done g l =
    (l.done ≤ length l.initial.slots)
    × IsFilled (λ (j : ℕ). g.H.CryptographicHasher.hash l.self.hash.now
    (rows_over g.M.Matrix.row_of l.self.matrices.now (l.first + j))) l.done (length l.initial.slots) l.slots

abbrev pub decreases-loop-done : goal.decreases-loop-done
decreases-loop-done g l = length l.initial.slots - l.done
