-- Each turn splits one row.
use Rattle.std.proofs.Common.{◌≡◌, ◌++◌, map}
use Rattle.std.specs.Iterator.Adapters.{zip_first, zip_second}
use Rattle.std.specs.Slice.Iter.{iter_rest}
use Rattle.std.specs.Vec.Iter.{into_iter_items}
use Rattle.p3_support.specs.Shown.{row_lists}
use Rattle.p3_merkle_tree.specs.Inner.SaltedParts.{left_widths, salt_parts, unsalted_parts}
use Rattle.p3_merkle_tree.proofs.hiding_open.split_rows.Given as goal

-- the parts so far, and those of the rows that are left
abbrev pub invariant-loop-row : goal.invariant-loop-row
invariant-loop-row g l =
    let rows = row_lists (into_iter_items (zip_first l.row-iterator)) in
    let widths = left_widths (map (λ p. p.now) (iter_rest (zip_second l.row-iterator))) in
    let all = left_widths (map (λ p. p.now) l.pairs) in
    record {
      rows_so_far : row_lists l.unsalted.items ++ unsalted_parts widths rows
          ≡ unsalted_parts all (row_lists l.fn.rows.items);
      salts_so_far : row_lists l.salts.items ++ salt_parts widths rows ≡ salt_parts all (row_lists l.fn.rows.items);
    }
