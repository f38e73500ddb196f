-- What is left of the part in which the column lies.
use Rattle.std.proofs.Common.{arith, ◌-◌, ◌+◌, ◌≤◌, ◌≡◌, ◌∙◌, ap, drop, length, refl, sym, take}
use Rattle.std.proofs.lemmas.List.{length-append, length-drop, length-take-le}
use Rattle.p3_support.proofs.RowReads.{joined_back, joined_front, piece_made}
use Rattle.p3_support.specs.RowSets.{sets_in}
use Rattle.p3_merkle_verifier.specs.Inner.OpenedMatrices.{row_in}
use Rattle.p3_merkle_verifier.specs.Inner.OpenedRows.{length-opened_row}
use Rattle.p3_merkle_verifier.proofs.openings.OpenedMatrixMatrix.piece.Goals as goal

pub returns-then-column-first : goal.returns-then-column-first
returns-then-column-first g c =
    let m = c.args.self.now in
    let column = c.args.column in
    let first = c.parts.result.0.now in
    let second = c.parts.result.1.now in
    let each = length-opened_row (sets_in m.sets) m.queries.now m.place m.width m.among m.fit in
    let n = length first - column in
    let long = ap length (sym c.parts.ensures) ∙ length-append first second in
    let fits : column + n ≤ m.width = omega (arith, long, each c.args.row c.requires.row_in) in
    piece_made (row_in m) m.width (length m.queries.now) c.args.row column n (take n (drop column first)) each
    c.requires.row_in fits (length-take-le n (drop column first) (omega (arith, length-drop column first)))
    (sym (joined_front first second column n (omega arith)) ∙ ap (λ row. take n (drop column row)) c.parts.ensures)

pub returns-else-column-first : goal.returns-else-column-first
returns-else-column-first g c =
    let m = c.args.self.now in
    let column = c.args.column in
    let first = c.parts.result.0.now in
    let second = c.parts.result.1.now in
    let each = length-opened_row (sets_in m.sets) m.queries.now m.place m.width m.among m.fit in
    let past = column - length first in
    let n = length second - past in
    let long = ap length (sym c.parts.ensures) ∙ length-append first second in
    let fits : column + n ≤ m.width =
    omega (arith, long, each c.args.row c.requires.row_in, c.requires.column_in, c.if-column-first.false) in
    piece_made (row_in m) m.width (length m.queries.now) c.args.row column n (take n (drop past second)) each
    c.requires.row_in fits (length-take-le n (drop past second) (omega (arith, length-drop past second)))
    (sym (ap (take n) (joined_back first second (length first) column refl (omega (arith, c.if-column-first.false))))
    ∙ ap (λ row. take n (drop column row)) c.parts.ensures)
