-- The parts of the rows so far, and those of the rows that are left, are those of all rows; nothing is left where
-- either list is at its end.
use Rattle.std.proofs.Common.{◌≡◌, ◌⊎◌, ◌∙◌, ℕ, [], ap, arith, drop, inl, inr, length, map, min, sym, take}
use Rattle.std.proofs.lemmas.{List.drop_min, List.nil_from_length, List.take_min}
use Rattle.std.specs.Iterator.Adapters.{zip_first, zip_second}
use Rattle.std.specs.Slice.Iter.{iter_rest}
use Rattle.std.specs.Vec.Iter.{into_iter_items}
use Rattle.p3_support.specs.Pairs.{left_of}
use Rattle.p3_support.specs.Shown.{row_lists}
use Rattle.p3_merkle_tree.specs.Inner.SaltedParts.{left_widths, salt_parts, unsalted_parts}
use Rattle.p3_merkle_tree.proofs.SaltFacts.{joined_end, joined_more, second_end, shown_end}
use Rattle.p3_merkle_tree.proofs.hiding_open.split_rows.Goals as goal

pub loop-row-preserved : goal.loop-row-preserved
loop-row-preserved g c =
    let turn = c.in-Some.ensures.steps in
    let row = c.in-Some.row in
    let w = g.A.Matrix.width_of (left_of c.in-Some.pair.now.now) in
    let long : c.len-in-loop-row.result ≡ length row.items = omega (arith, c.len-in-loop-row.ensures, row.ok.0) in
    let wide = c.width.ensures ∙ ap g.A.Matrix.width_of c.left.ensures in
    let place = c.min-width.ensures ∙ (λ i. min (wide i) (long i)) in
    let it = c.loop-row.row-iterator in
    let next = c.next.new.self in
    let rows = row_lists (into_iter_items (zip_first next)) in
    let pairs = map (λ p. p.now) (iter_rest (zip_second next)) in
    let all = left_widths (map (λ p. p.now) c.args.pairs.now) in
    let others = ap (λ ps. left_widths (map (λ p. p.now) ps)) turn.1 in
    record {
      rows_so_far =
          joined_more (λ (row, w). take w row) (λ row. row.items) c.loop-row.unsalted.items
          c.push-in-loop-row.new.self.items c.split_off.new.self row.items w rows
          (row_lists (into_iter_items (zip_first it))) (left_widths pairs)
          (left_widths (map (λ p. p.now) (iter_rest (zip_second it))))
          (unsalted_parts all (row_lists c.args.rows.items))
          (ap row_lists turn.0.0) others c.in_ok-push-2.ensures.items
          (c.in_ok-split_off.ensures.items ∙ ap (λ (n : ℕ). take n row.items) place ∙ take_min w row.items)
          c.loop-row.invariant.rows_so_far;
      salts_so_far =
          joined_more (λ (row, w). drop w row) (λ row. row.items) c.loop-row.salts.items c.push.new.self.items
          c.in_ok-split_off.field-0 row.items w rows (row_lists (into_iter_items (zip_first it))) (left_widths pairs)
          (left_widths (map (λ p. p.now) (iter_rest (zip_second it)))) (salt_parts all (row_lists c.args.rows.items))
          (ap row_lists turn.0.0) others c.in_ok-push.ensures.items
          (c.in_ok-split_off.ensures.tail ∙ ap (λ (n : ℕ). drop n row.items) place ∙ drop_min w row.items)
          c.loop-row.invariant.salts_so_far;
    }

pub returns : goal.returns
returns g c =
    let it = c.loop-row.row-iterator in
    let left = into_iter_items (zip_first it) in
    let others = iter_rest (zip_second it) in
    let ended : (left ≡ []) ⊎ (others ≡ []) =
    elim c.in-None.ensures.steps [
      | inl first ↦ inl (nil_from_length left (sym (zip_first it).rest.ok.0 ∙ first.1.0))
      | inr second ↦ inr (nil_from_length others second.1.0)
    ] in
    let rows = row_lists left in
    let pairs = map (λ p. p.now) others in
    let all = left_widths (map (λ p. p.now) c.args.pairs.now) in
    let end = second_end (λ p. g.A.Matrix.width_of (left_of p)) rows pairs
    (shown_end (λ row. row.items) (λ p. p.now) left others ended) in
    record {
      rows = joined_end (λ (row, w). take w row) (row_lists c.loop-row.unsalted.items) rows (left_widths pairs)
          (unsalted_parts all (row_lists c.args.rows.items)) end c.loop-row.invariant.rows_so_far;
      salts = joined_end (λ (row, w). drop w row) (row_lists c.loop-row.salts.items) rows (left_widths pairs)
          (salt_parts all (row_lists c.args.rows.items)) end c.loop-row.invariant.salts_so_far;
    }
