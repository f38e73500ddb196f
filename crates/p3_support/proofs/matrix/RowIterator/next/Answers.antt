use Rattle.std.proofs.Common.{◌∙◌, sym}
use Rattle.p3_support.proofs.RowReads.{drop_at}
use Rattle.p3_support.proofs.matrix.RowIterator.next.Goals as goal

pub returns-clause-steps : goal.returns-clause-steps
returns-clause-steps g c = sym c.self.view_is ∙ drop_at (g.M.Matrix.row_of c.self.inside.matrix.now c.self.inside.row)
    c.self.inside.next c.get-item.result c.get-item.ensures
