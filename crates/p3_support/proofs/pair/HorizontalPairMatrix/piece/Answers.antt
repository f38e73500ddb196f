-- A piece of a side, up to the end of the side's row, is one of the pair.
use Rattle.std.proofs.Common.{arith, ◌+◌, ◌-◌, ◌<◌, ◌≤◌, ◌∙◌, ap, length, subst, sym, take}
use Rattle.std.proofs.lemmas.List.{length-take-le}
use Rattle.p3_support.specs.Pairs.{pair_row}
use Rattle.p3_support.specs.Inner.PairLengths.{length-pair_row}
use Rattle.p3_support.proofs.RowReads.{joined_back, joined_front, piece_made, piece_read}
use Rattle.p3_support.proofs.pair.HorizontalPairMatrix.piece.Goals as goal

pub returns-then-column-width : goal.returns-then-column-width
returns-then-column-width g c =
    let p = c.args.self.now in
    let row = c.args.row in
    let column = c.args.column in
    let n = c.min.result in
    let xs = c.piece-piece.result.now in
    let left = g.A.Matrix.row_of p.left in
    let right = g.B.Matrix.row_of p.right in
    let v = g.A.Matrix.width_of p.left in
    let w = g.B.Matrix.width_of p.right in
    let h = g.A.Matrix.height_of p.left in
    let long = g.met.A.Matrix.length_row_of p.left in
    let few : n ≤ length xs = omega (arith, c.min.ensures) in
    let fits : column + n ≤ v = omega (arith, c.min.ensures, c.width-width.ensures, c.if-column-width.true) in
    piece_made (pair_row g.A.Matrix.row_of g.B.Matrix.row_of p.left p.right) (v + w) h row column n (take n xs)
    (λ r below. length-pair_row g.A.Matrix.row_of g.B.Matrix.row_of p.left p.right r v w (long r below)
    (g.met.B.Matrix.length_row_of p.right r (subst (λ k. r < k) p.one_height below)))
    c.requires.row_in (omega (arith, fits)) (length-take-le n xs few)
    (piece_read left v h row column n xs long c.requires.row_in fits few c.piece-piece.ensures
    ∙ sym (joined_front (left row) (right row) column n (omega (arith, fits, long row c.requires.row_in))))

pub returns-else-column-width : goal.returns-else-column-width
returns-else-column-width g c =
    let p = c.args.self.now in
    let row = c.args.row in
    let column = c.args.column in
    let n = c.min-else-column-width.result in
    let xs = c.piece-piece-else-column-width.result.now in
    let left = g.A.Matrix.row_of p.left in
    let right = g.B.Matrix.row_of p.right in
    let v = g.A.Matrix.width_of p.left in
    let w = g.B.Matrix.width_of p.right in
    let h = g.A.Matrix.height_of p.left in
    let long = g.met.A.Matrix.length_row_of p.left in
    let wide = g.met.B.Matrix.length_row_of p.right in
    let there : row < g.B.Matrix.height_of p.right = subst (λ k. row < k) p.one_height c.requires.row_in in
    let few : n ≤ length xs = omega (arith, c.min-else-column-width.ensures) in
    let fits : column + n ≤ v + w = omega (arith, c.min-else-column-width.ensures, c.width-width.ensures) in
    piece_made (pair_row g.A.Matrix.row_of g.B.Matrix.row_of p.left p.right) (v + w) h row column n (take n xs)
    (λ r below. length-pair_row g.A.Matrix.row_of g.B.Matrix.row_of p.left p.right r v w (long r below)
    (wide r (subst (λ k. r < k) p.one_height below)))
    c.requires.row_in fits (length-take-le n xs few)
    (piece_read right w (g.B.Matrix.height_of p.right) row (column - v) n xs wide there
    (omega (arith, fits, c.width-width.ensures, c.if-column-width.false)) few
    (rw c.width-width.ensures at c.piece-piece-else-column-width.ensures)
    ∙ ap (take n) (sym (joined_back (left row) (right row) v column (long row c.requires.row_in)
    (omega (arith, c.width-width.ensures, c.if-column-width.false)))))
