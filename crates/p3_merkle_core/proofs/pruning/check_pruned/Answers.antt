-- Each call answers one part of the definition, in its order.
use Rattle.std.proofs.Common.{◌≡◌, ◌+◌, ◌<◌, ◌∙◌, ℕ, All, ap, arith, drop, get_or, sym, inl, inr, length, refl, []}
use Rattle.std.proofs.Common.{None, Option, Some}
use Rattle.std.proofs.lemmas.List.{length-map}
use Rattle.std.proofs.{lemmas.Result.err_from_is_err_and}
use Rattle.std.specs.Prelude.{slice_index_or}
use Rattle.p3_support.specs.RowSets.{sets_in}
use Rattle.p3_support.specs.Batches.{greatest, heights_of}
use Rattle.p3_support.proofs.RowFacts.{widened_none}
use Rattle.p3_merkle_core.specs.Geometry.{shape_of}
use Rattle.p3_merkle_core.specs.Refusals.{width_refusal, pruned_refusal}
use Rattle.p3_answers.specs.Answers.{first_of}
use Rattle.p3_merkle_core.specs.Inner.Agreement.{distinct, first_query, late_refusal, layers_refusal, opened_with}
use Rattle.p3_merkle_core.specs.declared.error.MerkleTreeError.{MerkleTreeError}
use Rattle.p3_merkle_core.proofs.Lists.RisingFacts.{increasing_from}
use Rattle.p3_merkle_core.proofs.Pruned.AgreeFacts.{firsts_inside}
use Rattle.p3_answers.proofs.AnswerFacts.{found_or, kept_or}
use Rattle.p3_merkle_core.proofs.Pruned.LeadFacts.{all_fit, firsts_next}
use Rattle.p3_merkle_core.proofs.Pruned.SlotFacts.{all_below, distinct_bounded, distinct_rising}
use Rattle.p3_merkle_core.proofs.Pruned.PrunedFacts.{asked_from, full_from, late_from, pruned_counted, pruned_late}
use Rattle.p3_merkle_core.proofs.pruning.check_pruned.Given.{Over}
use Rattle.p3_merkle_core.proofs.pruning.check_pruned.Goals.{After-deref-query-items}
use Rattle.p3_merkle_core.proofs.pruning.check_pruned.Goals.{In_ok-check_digest_count}
use Rattle.p3_merkle_core.proofs.pruning.check_pruned.Goals as goal

pub new-covered-requires : goal.new-covered-requires
new-covered-requires g c = record {
  arity = c.requires.arity;
  low = c.in_ok-check_queries.ensures.low;
  below = all_below (greatest (heights_of c.args.schedule.now.dimensions.now)) c.args.indices.now
      (asked_from (heights_of c.args.schedule.now.dimensions.now) c.args.indices.now (length (sets_in c.args.rows))
      c.args.num_digests (rw c.num_sets.ensures at c.in_ok-check_queries.ensures.answer)).highest;
  nodes = c.in_ok-leaves.ensures.items ∙ c.deref.ensures.value ∙ c.in_ok-queried.ensures.indices;
}

pub returns-in_err-check_digest_count-clause-answer : goal.returns-in_err-check_digest_count-clause-answer
returns-in_err-check_digest_count-clause-answer g c =
    let s = shape_of c.args.schedule.now.arity c.args.schedule.now.dimensions.now in
    let early = rw c.num_sets.ensures at c.in_ok-check_queries.ensures.answer in
    let left = err_from_is_err_and c.from_residual-in_err-check_digest_count.result
    c.from_residual-in_err-check_digest_count.ensures.1 in
    let len = rw (c.new-covered.ensures.schedule, c.new-covered.ensures.indices) at c.boundary_len.ensures in
    let some = rw len at c.in_err-check_digest_count.ensures in
    let found = pruned_counted g.T.PartialEq.eq s c.args.cap_layer c.args.indices.now (sets_in c.args.rows)
    c.args.num_digests c.in_err-check_digest_count.field-0.0 early
    (rw (c.in_ok-check_repeats.ensures, some) refl) in
    rw left.1 (inr (found ∙ ap (λ e. Some e) (sym left.2)))

-- the first queries are queries
inside : (g : Over) (c : After-deref-query-items g) →
    All (λ query. query < length (sets_in c.args.rows)) c.deref-query-items.result.now
inside g c =
    let asked = asked_from (heights_of c.args.schedule.now.dimensions.now) c.args.indices.now (length
    (sets_in c.args.rows))
    c.args.num_digests (rw c.num_sets.ensures at c.in_ok-check_queries.ensures.answer) in
    rw (c.deref-query-items.ensures.value, ← asked.pairs) (firsts_inside
    c.in_ok-queried.queried.first_queries.items c.args.indices.now c.in_ok-queried.ensures.first_queries)

-- where nothing is refused before the rows are looked at, they decide
late : (g : Over) (c : In_ok-check_digest_count g) (answer : Option MerkleTreeError) →
    let s = shape_of c.args.schedule.now.arity c.args.schedule.now.dimensions.now in
    let sets = sets_in c.args.rows in
    late_refusal g.T.PartialEq.eq s c.args.cap_layer c.in_ok-queried.queried.indices.items
    c.in_ok-queried.queried.first_queries.items sets ≡ answer →
    pruned_refusal g.T.PartialEq.eq s c.args.cap_layer (opened_with c.args.indices.now sets c.args.num_digests) ≡ answer
late g c answer is =
    let early = rw c.num_sets.ensures at c.in_ok-check_queries.ensures.answer in
    let len = rw (c.new-covered.ensures.schedule, c.new-covered.ensures.indices) at c.boundary_len.ensures in
    pruned_late g.T.PartialEq.eq (shape_of c.args.schedule.now.arity c.args.schedule.now.dimensions.now)
    c.args.cap_layer
    c.in_ok-queried.queried.indices.items c.in_ok-queried.queried.first_queries.items c.args.indices.now
    (sets_in c.args.rows) c.args.num_digests answer c.in_ok-queried.ensures.indices
    c.in_ok-queried.ensures.first_queries early c.in_ok-check_repeats.ensures
    (rw len at c.in_ok-check_digest_count.ensures) is

pub rows-requires : goal.rows-requires
rows-requires g c = inside g (goal.at.rows-requires g c).After-deref-query-items c.loop-query.query-index 0
    c.loop-query-test.true

pub loop-query-preserved : goal.loop-query-preserved
loop-query-preserved g c =
    let firsts = c.deref-query-items.result.now in
    let n = c.loop-query.query-index in
    let at = goal.at.loop-query-preserved g c in
    let h = λ (query : ℕ). width_refusal c.args.schedule.now.dimensions.now
    (slice_index_or (sets_in c.args.rows) query []) in
    let none : h (get_or firsts n 0) ≡ None =
    rw (widened_none c.args.schedule.now.dimensions.now, c.rows.ensures) at c.in_ok-check_row_widths.ensures in
    kept_or (h (get_or firsts n 0)) (first_of h (drop (n + 1) firsts)) (first_of h firsts)
    (firsts_next h firsts n (first_of h firsts) c.loop-query-test.true c.loop-query.invariant) none

pub returns-in_err-check_row_widths-clause-answer : goal.returns-in_err-check_row_widths-clause-answer
returns-in_err-check_row_widths-clause-answer g c =
    let firsts = c.deref-query-items.result.now in
    let n = c.loop-query.query-index in
    let at = goal.at.returns-in_err-check_row_widths-clause-answer g c in
    let h = λ (query : ℕ). width_refusal c.args.schedule.now.dimensions.now
    (slice_index_or (sets_in c.args.rows) query []) in
    let e = c.in_err-check_row_widths.field-0.0 in
    let here : h (get_or firsts n 0) ≡ Some e =
    rw (widened_none c.args.schedule.now.dimensions.now, c.rows.ensures) at c.in_err-check_row_widths.ensures in
    let some : first_of h c.in_ok-queried.queried.first_queries.items ≡ Some e =
    rw c.deref-query-items.ensures.value at
    (found_or (h (get_or firsts n 0)) (first_of h (drop (n + 1) firsts)) (first_of h firsts) e
    (firsts_next h firsts n (first_of h firsts) c.loop-query-test.true c.loop-query.invariant) here) in
    let left = err_from_is_err_and c.from_residual-in_err-check_row_widths.result
    c.from_residual-in_err-check_row_widths.ensures.1 in
    let found = late g at.In_ok-check_digest_count (Some e) (rw some refl) in
    rw left.1 (inr (found ∙ ap (λ e. Some e) (sym left.2)))

pub check_shared_rows-requires : goal.check_shared_rows-requires
check_shared_rows-requires g c =
    let indices = c.args.indices.now in
    let d = distinct indices in
    let firsts = c.in_ok-queried.queried.first_queries.items in
    let asked = asked_from (heights_of c.args.schedule.now.dimensions.now) c.args.indices.now (length
    (sets_in c.args.rows))
    c.args.num_digests (rw c.num_sets.ensures at c.in_ok-check_queries.ensures.answer) in
    let s = shape_of c.args.schedule.now.arity c.args.schedule.now.dimensions.now in
    let m = greatest (heights_of c.args.schedule.now.dimensions.now) in
    record {
      arity = c.requires.arity;
      low = c.in_ok-check_queries.ensures.low;
      below = rw c.in_ok-queried.ensures.indices (distinct_bounded m indices (all_below m indices asked.highest));
      layer = c.requires.layer;
      pairs = ap length c.in_ok-queried.ensures.indices ∙ sym (length-map d (first_query indices))
          ∙ ap length (sym c.in_ok-queried.ensures.first_queries);
      ascending = rw c.in_ok-queried.ensures.indices (increasing_from 0 d (distinct_rising indices));
      queries = rw (← asked.pairs) (firsts_inside firsts indices c.in_ok-queried.ensures.first_queries);
      full = full_from c.args.schedule.now.dimensions.now firsts (sets_in c.args.rows)
          (all_fit c.deref-query-items.result.now _ _ c.loop-query.query-index (omega arith)
          c.deref-query-items.ensures.value c.loop-query.invariant);
    }

pub returns-in_err-check_shared_rows-clause-answer : goal.returns-in_err-check_shared_rows-clause-answer
returns-in_err-check_shared_rows-clause-answer g c =
    let s = shape_of c.args.schedule.now.arity c.args.schedule.now.dimensions.now in
    let queried = c.in_ok-queried.queried in
    let sets = sets_in c.args.rows in
    let widths = first_of (λ query. width_refusal c.args.schedule.now.dimensions.now (slice_index_or sets query []))
    queried.first_queries.items in
    let groups = layers_refusal g.T.PartialEq.eq s c.args.cap_layer queried.indices.items queried.first_queries.items
    sets in
    let left = err_from_is_err_and c.from_residual-in_err-check_shared_rows.result
    c.from_residual-in_err-check_shared_rows.ensures.1 in
    let e = c.in_err-check_shared_rows.field-0.0 in
    let none : widths ≡ None = all_fit c.deref-query-items.result.now _ _
    c.loop-query.query-index (omega arith) c.deref-query-items.ensures.value c.loop-query.invariant in
    elim c.in_err-check_shared_rows.ensures [
      | inl memory ↦ rw left.1 (inl (left.2 ∙ memory))
      | inr some ↦
          let at = goal.at.returns-in_err-check_shared_rows-clause-answer g c in
          let found = late g at.In_ok-check_digest_count (Some e)
          (late_from widths groups (Some e) none some) in
          rw left.1 (inr (found ∙ ap (λ e. Some e) (sym left.2)))
    ]

pub returns-clause-answer : goal.returns-clause-answer
returns-clause-answer g c =
    let s = shape_of c.args.schedule.now.arity c.args.schedule.now.dimensions.now in
    let queried = c.in_ok-queried.queried in
    let sets = sets_in c.args.rows in
    let widths = first_of (λ query. width_refusal c.args.schedule.now.dimensions.now (slice_index_or sets query []))
    queried.first_queries.items in
    let groups = layers_refusal g.T.PartialEq.eq s c.args.cap_layer queried.indices.items queried.first_queries.items
    sets in
    let none : widths ≡ None = all_fit c.deref-query-items.result.now _ _
    c.loop-query.query-index (omega arith) c.deref-query-items.ensures.value c.loop-query.invariant in (
      late g (goal.at.returns-clause-answer g c).In_ok-check_digest_count None
          (late_from widths groups None none c.in_ok-check_shared_rows.ensures),
      c.in_ok-queried.ensures,
    )
