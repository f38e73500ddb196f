-- What a frontier stands for.
use Rattle.std.specs.Prelude.{◌≡◌, ℕ, List, length}
use Rattle.sha2.specs.Sha256.{sha256}
use Rattle.tlog_tree.specs.Trees.{whole_nodes}
use Rattle.tlog_tree.specs.declared.frontier.Frontier.{Frontier}

-- the tree of these leaf hashes, by their number and its whole nodes
pub record IsFrontierOf (leaves : List (List ℕ)) (frontier : Frontier) : Type 0 where
  pub size : frontier.size ≡ length leaves
  pub nodes : frontier.nodes.items ≡ whole_nodes sha256 leaves
