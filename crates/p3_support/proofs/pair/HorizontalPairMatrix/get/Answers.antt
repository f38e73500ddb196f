-- An element of a joined row is the left row's below the left width, and the right row's from there on.
use Rattle.std.proofs.Common.{rules}
use Rattle.p3_support.proofs.RowReads.{joined_first, joined_second}
use Rattle.p3_support.proofs.pair.HorizontalPairMatrix.get.Goals as goal

pub returns-then-column-width : goal.returns-then-column-width
returns-then-column-width g c =
    let pair = c.args.self.now in
    joined_first (g.A.Matrix.row_of pair.left c.args.row) (g.B.Matrix.row_of pair.right c.args.row) c.args.column
    c.get.result c.get.ensures

pub returns-else-column-width : goal.returns-else-column-width
returns-else-column-width g c =
    let pair = c.args.self.now in
    let row = c.args.row in
    joined_second (g.A.Matrix.row_of pair.left row) (g.B.Matrix.row_of pair.right row) (g.A.Matrix.width_of pair.left)
    c.args.column c.get-else-column-width.result (g.met.A.Matrix.length_row_of pair.left row c.requires.row_in)
    (search rules) (search rules)
