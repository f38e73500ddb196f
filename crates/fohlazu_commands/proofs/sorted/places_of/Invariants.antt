use Rattle.std.proofs.Common.{◌-◌}
use Rattle.fohlazu_commands.proofs.SortedFacts.{ArePlacesSoFar}
use Rattle.fohlazu_commands.proofs.sorted.places_of.Given as goal

-- the places so far
abbrev pub invariant-loop-entry : goal.invariant-loop-entry
invariant-loop-entry l = ArePlacesSoFar l.proof.text.now l.proof.count l.left (l.proof.count - l._entry) l.places.items
