use Rattle.std.proofs.Common.{◌≡◌, length}
use Rattle.p3_merkle_verifier.specs.Inner.Parts.{rows_left}
use Rattle.p3_merkle_verifier.proofs.openings.OpenedRowsIterator.next.Given as goal

-- what is left to yield is what was left at the call
abbrev pub invariant-loop-matrix : goal.invariant-loop-matrix
invariant-loop-matrix g l = rows_left l.self ≡ rows_left l.initial.self

abbrev pub decreases-loop-matrix : goal.decreases-loop-matrix
decreases-loop-matrix g l = length l.self.dimensions.now
