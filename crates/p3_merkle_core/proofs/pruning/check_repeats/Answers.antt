-- The queries so far have the row sets of the first ones of their indices, so the refusal is that of the others.
use Rattle.std.proofs.Common.{◌<◌, ◌∙◌, Some, not, false, refl, ap, sym, arith, get_or, length}
use Rattle.std.specs.Cmp.Lexicographic.{pointwise}
use Rattle.p3_merkle_core.specs.Refusals.{duplicate_refusal}
use Rattle.p3_merkle_core.specs.Inner.Agreement.{IsSlot, opened_of}
use Rattle.p3_support.specs.RowSets.{sets_in}
use Rattle.p3_merkle_core.proofs.Pruned.SlotFacts.{first_inside, own_set, queried_at, repeat_turn}
use Rattle.p3_merkle_core.proofs.Pruned.SortedFacts.{slot_read}
use Rattle.p3_merkle_core.proofs.pruning.check_repeats.Given.{Over}
use Rattle.p3_merkle_core.proofs.pruning.check_repeats.Goals.{else-query-first-via-then-query-first+else-not-same_rows}
use Rattle.p3_merkle_core.proofs.pruning.check_repeats.Goals.{else-query-first-via-else-query-first, After-index-first}
use Rattle.p3_merkle_core.proofs.pruning.check_repeats.Goals as goal

-- the slot of a query, and its first query, which is one
at_first : (g : Over) (c : After-index-first g) →
    IsSlot c.args.indices.now (get_or c.args.indices.now c.loop-query.query 0) c.index-slot.result.now ×
    (c.index-first.result.now < length (sets_in c.args.rows))
at_first g c =
    let indices = c.args.indices.now in
    let slot = slot_read c.args.queried.now.slots.items indices c.loop-query.query c.index-slot.result.now
    c.requires.queried.slots (omega arith) c.index-slot.ensures in
    let inside = first_inside c.args.queried.now.first_queries.items indices _ c.index-slot.result.now
    c.index-first.result.now c.requires.queried.first_queries (queried_at indices c.loop-query.query (omega arith)) slot
    c.index-first.ensures in
    (slot, omega (arith, c.requires.pairs))

pub rows-requires-then-query-first : goal.rows-requires-then-query-first
rows-requires-then-query-first g c = (at_first g (goal.at.rows-requires-then-query-first g c).After-index-first).1

pub returns-then-not-same_rows : goal.returns-then-not-same_rows
returns-then-not-same_rows g c =
    let eq = g.T.PartialEq.eq in
    let indices = c.args.indices.now in
    let sets = sets_in c.args.rows in
    let firsts = c.args.queried.now.first_queries.items in
    let n = c.loop-query.query in
    let first = c.index-first.result.now in
    let (slot, inside) = at_first g (goal.at.returns-then-not-same_rows g c).After-index-first in
    (repeat_turn eq firsts indices sets (duplicate_refusal eq (opened_of indices sets)) n
    c.index-slot.result.now first (not c.same_rows.result) c.requires.queried.first_queries c.requires.pairs
    (omega arith) slot
    c.index-first.ensures
    (ap not (c.same_rows.ensures
    ∙ (λ i. pointwise (pointwise eq) (c.rows.ensures i) (c.rows-then-query-first.ensures i))))
    c.loop-query.invariant).found (ap not c.if-not-same_rows.true)
    ∙ ap (λ e. Some e) (sym c.into.ensures)

pub loop-query-preserved : goal.loop-query-preserved
loop-query-preserved g c =
    let eq = g.T.PartialEq.eq in
    let indices = c.args.indices.now in
    let sets = sets_in c.args.rows in
    let firsts = c.args.queried.now.first_queries.items in
    let n = c.loop-query.query in
    let first = c.index-first.result.now in
    let (slot, inside) = at_first g (goal.at.loop-query-preserved g c).After-index-first in
    elim c.else-query-first.branch [
      | else-query-first-via-then-query-first+else-not-same_rows w ↦
          (repeat_turn eq firsts indices sets (duplicate_refusal eq (opened_of indices sets)) n
          c.index-slot.result.now first (not w.same_rows.result) c.requires.queried.first_queries c.requires.pairs
          (omega arith)
          slot c.index-first.ensures
          (ap not (w.same_rows.ensures
          ∙ (λ i. pointwise (pointwise eq) (w.rows.ensures i) (w.rows-then-query-first.ensures i))))
          c.loop-query.invariant).kept (ap not w.if-not-same_rows.false)
      | else-query-first-via-else-query-first w ↦
          (repeat_turn eq firsts indices sets (duplicate_refusal eq (opened_of indices sets)) n
          c.index-slot.result.now first false c.requires.queried.first_queries c.requires.pairs (omega arith)
          slot c.index-first.ensures
          (ap not (sym (own_set eq g.met.T.Eq.laws sets n first w.if-query-first.false)))
          c.loop-query.invariant).kept refl
    ]
