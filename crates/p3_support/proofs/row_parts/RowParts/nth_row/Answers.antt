-- A row stands in its place in the list of rows, and so do its salts in the list of them.
use Rattle.std.proofs.Common.{◌∙◌, [], arith, map, sym}
use Rattle.std.proofs.lemmas.List.{length-map}
use Rattle.p3_support.specs.Shown.{row_lists}
use Rattle.p3_support.proofs.RowFacts.{salted_read, salted_within, whole_read, whole_within}
use Rattle.p3_support.proofs.row_parts.RowParts.nth_row.Goals as goal

pub row_at-requires : goal.row_at-requires
row_at-requires g c =
    let rows = c.in-Vecs.rows.now in
    omega (
      arith,
      whole_within (row_lists rows) c.args.matrix (rw c.in-Vecs.is at c.requires),
      length-map rows (λ row. row.items),
    )

pub slice_at-requires : goal.slice_at-requires
slice_at-requires g c =
    let rows = c.in-Slices.rows.now in
    omega (
      arith,
      whole_within (map (λ row. row.now) rows) c.args.matrix (rw c.in-Slices.is at c.requires),
      length-map rows (λ row. row.now),
    )

pub row_at-requires-in-Salted : goal.row_at-requires-in-Salted
row_at-requires-in-Salted g c =
    let rows = c.in-Salted.rows.now in
    let salts = row_lists c.in-Salted.salts.now in
    let both = salted_within (row_lists rows) salts c.args.matrix (rw c.in-Salted.is at c.requires) in
    omega (arith, both.0, length-map rows (λ row. row.items))

pub row_at-requires-in-Salted-2 : goal.row_at-requires-in-Salted-2
row_at-requires-in-Salted-2 g c =
    let rows = row_lists c.in-Salted.rows.now in
    let salts = c.in-Salted.salts.now in
    let both = salted_within rows (row_lists salts) c.args.matrix (rw c.in-Salted.is at c.requires) in
    omega (arith, both.1, length-map salts (λ row. row.items))

pub slice_at-requires-in-SaltedSlices : goal.slice_at-requires-in-SaltedSlices
slice_at-requires-in-SaltedSlices g c =
    let rows = c.in-SaltedSlices.rows.now in
    let salts = row_lists c.in-SaltedSlices.salts.now in
    let both = salted_within (map (λ row. row.now) rows) salts c.args.matrix (rw c.in-SaltedSlices.is at c.requires) in
    omega (arith, both.0, length-map rows (λ row. row.now))

pub row_at-requires-in-SaltedSlices : goal.row_at-requires-in-SaltedSlices
row_at-requires-in-SaltedSlices g c =
    let rows = map (λ row. row.now) c.in-SaltedSlices.rows.now in
    let salts = c.in-SaltedSlices.salts.now in
    let both = salted_within rows (row_lists salts) c.args.matrix (rw c.in-SaltedSlices.is at c.requires) in
    omega (arith, both.1, length-map salts (λ row. row.items))

pub returns-in-Vecs : goal.returns-in-Vecs
returns-in-Vecs g c =
    let rows = row_lists c.in-Vecs.rows.now in
    rw c.in-Vecs.is ((λ i. (c.row_at.ensures i, []))
    ∙ sym (whole_read rows c.args.matrix (rw c.in-Vecs.is at c.requires)))

pub returns-in-Slices : goal.returns-in-Slices
returns-in-Slices g c =
    let rows = map (λ row. row.now) c.in-Slices.rows.now in
    rw c.in-Slices.is ((λ i. (c.slice_at.ensures i, []))
    ∙ sym (whole_read rows c.args.matrix (rw c.in-Slices.is at c.requires)))

pub returns-in-Salted : goal.returns-in-Salted
returns-in-Salted g c =
    let rows = row_lists c.in-Salted.rows.now in
    let salts = row_lists c.in-Salted.salts.now in
    rw c.in-Salted.is ((λ i. (c.row_at-in-Salted.ensures i, c.row_at-in-Salted-2.ensures i))
    ∙ sym (salted_read rows salts c.args.matrix (rw c.in-Salted.is at c.requires)))

pub returns-in-SaltedSlices : goal.returns-in-SaltedSlices
returns-in-SaltedSlices g c =
    let rows = map (λ row. row.now) c.in-SaltedSlices.rows.now in
    let salts = row_lists c.in-SaltedSlices.salts.now in
    rw c.in-SaltedSlices.is ((λ i. (c.slice_at-in-SaltedSlices.ensures i, c.row_at-in-SaltedSlices.ensures i))
    ∙ sym (salted_read rows salts c.args.matrix (rw c.in-SaltedSlices.is at c.requires)))
