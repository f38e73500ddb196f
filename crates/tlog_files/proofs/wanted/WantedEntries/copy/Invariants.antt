use Rattle.std.proofs.Common.{◌≡◌, ℕ, List, ◌++◌, [], length, map}
use Rattle.tlog_files.proofs.WantedFacts.{HoldsSome}
use Rattle.tlog_files.specs.Inner.Wanted.{HasPlaces, HoldsWanted}
use Rattle.tlog_files.proofs.wanted.WantedEntries.copy.Given as goal

abbrev pub invariant-wanted : goal.invariant-wanted
invariant-wanted l = record {
  places : HasPlaces l.self;
  holds : (wanted : List ℕ) (ended : List (List ℕ)) → l.first ≡ length ended → HoldsWanted l.fn.self wanted ended [] →
      HoldsSome l.self wanted l.first (ended ++ map (λ entry. entry.now) l.entries);
}

abbrev pub decreases-wanted : goal.decreases-wanted
decreases-wanted l = length l.self.left.now
