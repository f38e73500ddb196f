-- The row sets of several queries, in parts.
use Rattle.std.specs.Prelude.{List, map, zip}
use Rattle.p3_support.specs.Rows.{rows_in, rows_in_parts}
use Rattle.p3_support.specs.Shown.{row_sets}
use Rattle.p3_support.specs.declared.row_parts.RowSets.{RowSets}
use Rattle.p3_support.specs.declared.row_parts.RowSets.TheVariants.{Parts, Salted, Vecs}

-- the row sets, each row in one piece
abbrev pub sets_in : {T : Type 0} → RowSets T → List (List (List T))
sets_in (Vecs sets) = row_sets sets.now
sets_in (Salted sets salts) =
    map (λ (rows, salts). rows_in_parts (zip rows salts)) (zip (row_sets sets.now) (row_sets salts.now))
sets_in (Parts sets) = map (λ rows. rows_in rows) sets.now
