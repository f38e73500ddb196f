use Rattle.std.proofs.Common.{◌≡◌, ◌≤◌, ◌+◌, ◌-◌, ◌++◌, ℕ, List, length, take, drop, map}
use Rattle.std.specs.List.Sorted.{IsNonDecreasingBy}
use Rattle.sha2.specs.Sha256.{sha256}
use Rattle.tlog_tree.specs.Wanted.{end_of}
use Rattle.tlog_tree.specs.Inner.Wanted.{updated}
use Rattle.tlog_tree.specs.Trees.{whole_nodes}
use Rattle.tlog_tree.specs.Frontiers.{IsFrontierOf}
use Rattle.tlog_tree.proofs.frontier.Frontier.push_kept.Given as goal

abbrev pub invariant-loop-rest : goal.invariant-loop-rest
invariant-loop-rest l = record {
  within : length l.rest ≤ length l.hashes;
  size : l.size ≡ l.self.size + (length l.hashes - length l.rest);
  rest : l.rest ≡ drop (length l.hashes - length l.rest) l.hashes;
  grown : (leaves : List (List ℕ)) → IsFrontierOf leaves l.self →
      l.nodes.items ≡ whole_nodes sha256 (leaves ++ take (length l.hashes - length l.rest) l.hashes);
  wanted : (leaves : List (List ℕ)) → IsFrontierOf leaves l.self → IsNonDecreasingBy end_of l.initial.wanted →
      l.wanted ≡ map (updated sha256 0 (length leaves) (leaves ++ take (length l.hashes - length l.rest) l.hashes))
      l.initial.wanted;
}

abbrev pub decreases-loop-rest : goal.decreases-loop-rest
decreases-loop-rest l = length l.rest
