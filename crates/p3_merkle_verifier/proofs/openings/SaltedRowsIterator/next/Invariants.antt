use Rattle.std.proofs.Common.{◌≡◌, [], length}
use Rattle.p3_merkle_verifier.specs.Inner.Parts.{salted_left}
use Rattle.p3_merkle_verifier.proofs.openings.SaltedRowsIterator.next.Given as goal

-- what is left to yield is what was left at the call
abbrev pub invariant-loop-matrix : goal.invariant-loop-matrix
invariant-loop-matrix g l = (l.self.due.now ≡ []) × (salted_left l.self ≡ salted_left l.initial.self)

abbrev pub decreases-loop-matrix : goal.decreases-loop-matrix
decreases-loop-matrix g l = length l.self.dimensions.now
