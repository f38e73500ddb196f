-- Each turn passes one row more.
use Rattle.std.proofs.Common.{◌∙◌, ap, drop}
use Rattle.std.proofs.Math.Seq.{drop-drop}
use Rattle.p3_support.specs.Rows.{parts_of}
use Rattle.p3_support.proofs.row_parts.RowParts.row_after.Goals as goal

pub loop-preserved : goal.loop-preserved
loop-preserved g c =
    c.next_row.ensures.rest ∙ ap (drop 1) c.loop.invariant ∙ drop-drop 1 c.loop.counter (parts_of c.args.self)
