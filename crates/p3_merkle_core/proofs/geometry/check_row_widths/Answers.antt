-- Rows in one piece have the widths of their matrices alone.
use Rattle.p3_support.proofs.RowFacts.{whole_in_parts, widened_none}
use Rattle.p3_support.specs.Shown.{row_lists}
use Rattle.p3_merkle_core.proofs.geometry.check_row_widths.Goals as goal

pub returns-in-Vecs : goal.returns-in-Vecs
returns-in-Vecs g c =
    rw (
      c.if-salt_elems-eq0.true,
      c.in-Vecs.is,
      widened_none c.args.dimensions.now,
      whole_in_parts (row_lists c.in-Vecs.rows.now),
    ) c.check_widths.ensures
