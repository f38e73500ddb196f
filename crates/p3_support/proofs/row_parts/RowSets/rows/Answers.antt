-- The rows of a query lie in one piece each, or before their salts.
use Rattle.std.proofs.Common.{◌∙◌, sym, zip}
use Rattle.p3_support.specs.Rows.{rows_in_parts}
use Rattle.p3_support.proofs.RowFacts.{whole_in_parts}
use Rattle.p3_support.proofs.RowSetFacts.{set_and_salts, sets_in_pairs}
use Rattle.p3_support.proofs.row_parts.RowSets.rows.Goals as goal

pub set_at-requires-in-Salted : goal.set_at-requires-in-Salted
set_at-requires-in-Salted g c =
    (sets_in_pairs c.in-Salted.sets.now c.in-Salted.salts.now c.args.query (rw c.in-Salted.is at c.requires)).0

pub set_at-requires-in-Salted-2 : goal.set_at-requires-in-Salted-2
set_at-requires-in-Salted-2 g c =
    (sets_in_pairs c.in-Salted.sets.now c.in-Salted.salts.now c.args.query (rw c.in-Salted.is at c.requires)).1

pub returns-in-Vecs : goal.returns-in-Vecs
returns-in-Vecs g c = rw c.in-Vecs.is (whole_in_parts _ ∙ c.set_at.ensures)

pub returns-in-Salted : goal.returns-in-Salted
returns-in-Salted g c =
    rw c.in-Salted.is ((λ i. rows_in_parts (zip (c.set_at-in-Salted.ensures i) (c.set_at-in-Salted-2.ensures i)))
    ∙ sym (set_and_salts c.in-Salted.sets.now c.in-Salted.salts.now c.args.query
    (rw c.in-Salted.is at c.requires)))
