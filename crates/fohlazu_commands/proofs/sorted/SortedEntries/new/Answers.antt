use Rattle.fohlazu_commands.proofs.SortedFacts.{sorted_ascends}
use Rattle.fohlazu_commands.proofs.sorted.SortedEntries.new.Goals as goal

pub invariant_of-result : goal.invariant_of-result
invariant_of-result c = record {
  ascending = sorted_ascends c.sort_unstable.new.self.items c.sort_unstable.ensures.sorted;
}
