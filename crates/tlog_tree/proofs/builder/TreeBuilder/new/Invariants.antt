use Rattle.std.proofs.Common.{◌≡◌, get_or, map}
use Rattle.std.specs.List.{range_with_len}
use Rattle.tlog_tree.specs.Builders.{indexed_of}
use Rattle.tlog_tree.specs.Trees.{id_of}
use Rattle.tlog_tree.proofs.builder.TreeBuilder.new.Given as goal

abbrev pub invariant-loop-index : goal.invariant-loop-index
invariant-loop-index l =
    map indexed_of l.wanted.items ≡ map (λ k. (k, get_or l.nodes k (id_of 0 0))) (range_with_len 0 l.index)
