use Rattle.std.proofs.Common.{◌≡◌, List, ℕ, take}
use Rattle.tlog_tree.specs.Trees.{all_there}
use Rattle.fohlazu_commands.proofs.inputs.digests_of.Given as goal

abbrev pub invariant-loop-value : goal.invariant-loop-value
invariant-loop-value l = (all : List (List ℕ)) → l.value-items ≡ all_there all →
    l.digests.items ≡ take l.value-index all
