-- Each turn splits the rows of one index.
use Rattle.std.proofs.Common.{◌≡◌, ◌++◌, map}
use Rattle.std.specs.Vec.Iter.{into_iter_items}
use Rattle.p3_support.specs.Shown.{row_sets}
use Rattle.p3_merkle_tree.specs.Inner.SaltedParts.{left_widths, salt_parts, unsalted_parts}
use Rattle.p3_merkle_tree.proofs.hiding_open.split_row_sets.Given as goal

-- the parts of the sets so far, and those of the sets that are left
abbrev pub invariant-loop-rows : goal.invariant-loop-rows
invariant-loop-rows g l =
    let widths = left_widths (map (λ p. p.now) l.pairs.items) in
    let left = row_sets (into_iter_items l.rows-iterator) in
    let all = row_sets l.fn.sets.items in
    record {
      rows_so_far : row_sets l.unsalted.items ++ map (unsalted_parts widths) left ≡ map (unsalted_parts widths) all;
      salts_so_far : row_sets l.salts.items ++ map (salt_parts widths) left ≡ map (salt_parts widths) all;
    }
