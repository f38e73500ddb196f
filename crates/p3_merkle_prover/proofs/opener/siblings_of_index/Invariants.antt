use Rattle.std.proofs.Common.{◌≡◌}
use Rattle.p3_merkle_core.specs.Geometry.{ancestor}
use Rattle.p3_merkle_core.specs.Nodes.{shape}
use Rattle.p3_merkle_core.specs.Openings.{level_siblings, node_in}
use Rattle.p3_merkle_prover.specs.Parts.{layers_of, tree_batch}
use Rattle.p3_merkle_prover.proofs.opener.siblings_of_index.Given as goal
use Rattle.p3_merkle_core.proofs.Lists.ListFacts.{joined}

-- the siblings of the levels so far, and the node at which the path stands
abbrev pub invariant-loop-level : goal.invariant-loop-level
invariant-loop-level g l =
    ((d : g.row.X.Denot) → l.siblings.items
    ≡ joined (level_siblings (node_in d (layers_of l.tree)) (shape (tree_batch l.tree)) l.index) l.level)
    × (l.node ≡ ancestor (shape (tree_batch l.tree)) l.level l.index)
