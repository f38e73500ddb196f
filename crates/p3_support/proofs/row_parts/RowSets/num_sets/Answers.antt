-- There is a row set for each pair of a row set and its salt set.
use Rattle.std.proofs.Common.{arith}
use Rattle.std.proofs.lemmas.List.{length-map}
use Rattle.std.proofs.lemmas.Slice.Zip.{length-zip}
use Rattle.p3_support.specs.Rows.{rows_in_parts}
use Rattle.p3_support.specs.Shown.{row_lists, row_sets}
use Rattle.std.specs.Prelude.{zip}
use Rattle.p3_support.proofs.row_parts.RowSets.num_sets.Goals as goal

pub returns-in-Salted : goal.returns-in-Salted
returns-in-Salted g c =
    let sets = c.in-Salted.sets.now in
    let salts = c.in-Salted.salts.now in
    rw c.in-Salted.is (omega (
      arith,
      c.min.ensures,
      length-zip (row_sets sets) (row_sets salts),
      length-map (zip (row_sets sets) (row_sets salts)) (λ (rows, salts). rows_in_parts (zip rows salts)),
      length-map sets (λ rows. row_lists rows.items),
      length-map salts (λ rows. row_lists rows.items),
    ))
