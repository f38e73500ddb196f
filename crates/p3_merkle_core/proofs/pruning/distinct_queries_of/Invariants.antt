-- The first loop lists the queries with their positions, and the second finds the first query of each index.
use Rattle.std.proofs.Common.{◌≡◌, ℕ, ◌≤◌, get_or, length, map, take}
use Rattle.std.specs.List.{range_with_len}
use Rattle.std.specs.Vec.{vec_capacity, vec_len}
use Rattle.p3_merkle_core.specs.Inner.Agreement.{distinct}
use Rattle.p3_merkle_core.proofs.Pruned.SlotFacts.{first_from}
use Rattle.p3_merkle_core.proofs.pruning.distinct_queries_of.Given as goal

-- the first queries among those that were gone through
abbrev pub invariant-loop-first : goal.invariant-loop-first
invariant-loop-first l = l.first_queries.items ≡ map (first_from l.queries l.first) (distinct l.queries)

-- the queries so far, with their indices
abbrev pub invariant-loop-query : goal.invariant-loop-query
invariant-loop-query l = record {
  indices : map (λ (q : ℕ × ℕ). q.0) l.sorted.items ≡ take l.query l.queries;
  each : l.sorted.items ≡ map (λ k. (get_or l.queries k 0, k)) (range_with_len 0 l.query);
  count : vec_len l.sorted ≡ l.query;
  room : length l.queries ≤ vec_capacity l.sorted;
}
