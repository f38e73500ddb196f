-- There is a row for each pair of a row and its salts, or for each width.
use Rattle.std.proofs.Common.{◌∙◌, arith, map, sym, []}
use Rattle.std.proofs.lemmas.List.{length-map}
use Rattle.std.proofs.lemmas.Slice.Zip.{length-zip}
use Rattle.p3_support.specs.Batches.{widths_of}
use Rattle.p3_support.specs.Rows.{flat_rows}
use Rattle.p3_support.specs.Shown.{row_lists}
use Rattle.p3_support.proofs.FlatRows.{length-flat_rows}
use Rattle.p3_support.proofs.row_parts.RowParts.num_rows.Goals as goal

pub returns-in-Salted : goal.returns-in-Salted
returns-in-Salted g c =
    let rows = c.in-Salted.rows.now in
    let salts = c.in-Salted.salts.now in
    rw c.in-Salted.is (omega (
      arith,
      c.min.ensures,
      length-zip (row_lists rows) (row_lists salts),
      length-map rows (λ row. row.items),
      length-map salts (λ row. row.items),
    ))

pub returns-in-SaltedSlices : goal.returns-in-SaltedSlices
returns-in-SaltedSlices g c =
    let rows = c.in-SaltedSlices.rows.now in
    let salts = c.in-SaltedSlices.salts.now in
    rw c.in-SaltedSlices.is (omega (
      arith,
      c.min-in-SaltedSlices.ensures,
      length-zip (map (λ row. row.now) rows) (row_lists salts),
      length-map rows (λ row. row.now),
      length-map salts (λ row. row.items),
    ))

pub returns-in-Flat : goal.returns-in-Flat
returns-in-Flat g c =
    let words = c.in-Flat.words.now in
    let dimensions = c.in-Flat.dimensions.now in
    let rows = flat_rows (widths_of dimensions) words in
    rw c.in-Flat.is (sym (length-map rows (λ row. (row, [])) ∙ length-flat_rows (widths_of dimensions) words
    ∙ length-map dimensions (λ d. d.width)))
