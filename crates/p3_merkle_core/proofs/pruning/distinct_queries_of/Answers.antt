-- The queries, sorted by their indices, give the slots; and each index has the first of its queries among those that
-- were gone through, from the last on.
use Rattle.std.proofs.Common.{◌≡◌, ◌-◌, ◌∙◌, ℕ, ◌++◌, ◌∷◌, [], List, ap, arith, get_or, length, map, replicate, rules}
use Rattle.std.proofs.Common.{sym}
use Rattle.std.proofs.lemmas.List.{map-append, take_all, take_more}
use Rattle.std.proofs.lemmas.List.FromFn.{map-range_with_len_more}
use Rattle.std.specs.List.{range_with_len}
use Rattle.p3_merkle_core.proofs.Pruned.SlotFacts.{first_from, firsts_start, firsts_turn}
use Rattle.p3_merkle_core.proofs.Pruned.SortedFacts.{slot_read, sorted_from}
use Rattle.p3_merkle_core.proofs.pruning.distinct_queries_of.Goals as goal

pub loop-first-init : goal.loop-first-init
loop-first-init c =
    let n = length c.args.queries.now in
    let many : c.len.result ≡ length c.in_ok-indices.indices.items = omega arith in
    c.in_ok-first_queries.ensures.items_if_clones_equal (λ y e. e) ∙ ap (λ k. replicate k n) many
    ∙ firsts_start n c.args.queries.now c.in_ok-indices.indices.items (omega arith)
    ∙ ap (λ xs. map (first_from c.args.queries.now n) xs) c.in_ok-indices.ensures.distinct

pub loop-first-preserved : goal.loop-first-preserved
loop-first-preserved c =
    let n = c.loop-first.first - 1 in
    firsts_turn c.loop-first.first_queries.items c.args.queries.now n c.loop-first.first c.index.result.now
    (omega arith) (omega arith) c.loop-first.invariant
    (slot_read c.in_ok-indices.slots.items c.args.queries.now n c.index.result.now c.in_ok-indices.ensures.slots
    (omega arith) c.index.ensures)

pub loop-query-preserved : goal.loop-query-preserved
loop-query-preserved c =
    let queries = c.args.queries.now in
    let k = c.loop-query.query in
    let so_far = c.loop-query.invariant in
    let pushed = c.push_reserved.ensures.items in
    record {
      indices = ap (map (λ (q : ℕ × ℕ). q.0)) pushed
          ∙ map-append (λ (q : ℕ × ℕ). q.0) c.loop-query.sorted.items ((get_or queries k 0, k) ∷ [])
          ∙ ap (λ (xs : List ℕ). xs ++ get_or queries k 0 ∷ []) so_far.indices
          ∙ sym (take_more queries k 0 c.loop-query-test.true);
      each = pushed ∙ ap (λ (xs : List (ℕ × ℕ)). xs ++ (get_or queries k 0, k) ∷ []) so_far.each
          ∙ sym (map-range_with_len_more (λ k. (get_or queries k 0, k)) 0 k k (omega arith));
      count = search rules;
      room = search rules;
    }

pub distinct_slots-requires : goal.distinct_slots-requires
distinct_slots-requires c =
    let queries = c.args.queries.now in
    let all : c.loop-query.query ≡ length queries = omega arith in
    rw c.deref.ensures.value (sorted_from queries c.loop-query.sorted.items c.sort_unstable.new.self.items
    (c.loop-query.invariant.indices ∙ take_all c.loop-query.query queries (omega arith))
    (c.loop-query.invariant.each ∙ ap (λ n. map (λ k. (get_or queries k 0, k)) (range_with_len 0 n)) all)
    c.sort_unstable.ensures.permutation c.sort_unstable.ensures.sorted)
