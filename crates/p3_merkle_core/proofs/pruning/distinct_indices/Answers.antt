-- What is left after the sort and the dropping of repeats.
use Rattle.std.proofs.Common.{◌∙◌}
use Rattle.std.proofs.lemmas.List.Filters.{dedup_is}
use Rattle.p3_merkle_core.proofs.Pruned.SlotFacts.{sorted_leaves}
use Rattle.p3_merkle_core.proofs.pruning.distinct_indices.Goals as goal

pub returns : goal.returns
returns c =
    dedup_is _ _ _ c.dedup.ensures.filtered
    ∙ sorted_leaves c.args.indices.now c.sort_unstable.new.self.items
    (rw c.in_ok-leaves.ensures.items at c.sort_unstable.ensures.permutation) c.sort_unstable.ensures.sorted
