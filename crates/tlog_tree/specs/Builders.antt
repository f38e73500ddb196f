-- What a builder stands for.
use Rattle.std.specs.Prelude.{ℕ, List, length, map, slice_index_or}
use Rattle.std.specs.List.{All, range_with_len}
use Rattle.std.specs.List.Sorted.{IsNonDecreasingBy, IsPermutation}
use Rattle.sha2.specs.Sha256.{sha256}
use Rattle.tlog_tree.specs.Frontiers.{IsFrontierOf}
use Rattle.tlog_tree.specs.Trees.{id_of}
use Rattle.tlog_tree.specs.Wanted.{HasValue, end_of}
use Rattle.tlog_tree.specs.declared.builder.TreeBuilder.{TreeBuilder}
use Rattle.tlog_tree.specs.declared.node_id.NodeId.{NodeId}
use Rattle.tlog_tree.specs.declared.wanted.WantedNode.{WantedNode}

-- a wanted node with its index among them
abbrev pub indexed_of : WantedNode → ℕ × NodeId
indexed_of node = (node.index, node.id)

-- nodes with their indices
abbrev pub indexed : List NodeId → List (ℕ × NodeId)
indexed nodes = map (λ k. (k, slice_index_or nodes k (id_of 0 0))) (range_with_len 0 (length nodes))

-- the tree of these leaf hashes, and these nodes, in the order of their ends, with the values of those whose leaves
-- have all come
pub record IsBuilderOf (leaves : List (List ℕ)) (nodes : List NodeId) (builder : TreeBuilder) : Type 0 where
  pub frontier : IsFrontierOf leaves builder.frontier
  pub at : IsPermutation (indexed nodes) (map indexed_of builder.wanted.items)
  pub in_order : IsNonDecreasingBy end_of builder.wanted.items
  pub values : All (HasValue sha256 leaves) builder.wanted.items
