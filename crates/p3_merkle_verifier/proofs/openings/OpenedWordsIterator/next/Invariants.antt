use Rattle.std.proofs.Common.{◌≡◌, length}
use Rattle.p3_merkle_verifier.specs.Inner.Parts.{parts_left, words_left}
use Rattle.p3_merkle_verifier.proofs.openings.OpenedWordsIterator.next.Given as goal

-- what is left to yield is what was left at the call
abbrev pub invariant-loop-self : goal.invariant-loop-self
invariant-loop-self g l = words_left l.self ≡ words_left l.initial.self

abbrev pub decreases-loop-self : goal.decreases-loop-self
decreases-loop-self g l = length (parts_left l.self.parts)
