-- All values from there on.
use Rattle.std.proofs.Common.{arith, ◌≡◌, ◌+◌, ◌-◌, ◌*◌, ◌∙◌, ap, drop, length, sym}
use Rattle.std.specs.List.{flat_map, range_with_len}
use Rattle.std.proofs.lemmas.List.{drop-drop, take_all, take_rest}
use Rattle.p3_support.specs.Lists.{message}
use Rattle.p3_support.proofs.RowReads.{stored_rows}
use Rattle.p3_support.proofs.matrix.RowMajorMatrixMatrix.piece.Goals as goal

pub returns : goal.returns
returns g c =
    let m = c.args.self.now in
    let xs = m.values.items in
    let row = c.args.row in
    let start = row * m.width + c.args.column in
    let later = range_with_len row (m.height - row) in
    let end : m.height ≡ row + (m.height - row) = omega (arith, c.requires.row_in) in
    let stored : drop start xs ≡ drop c.args.column (flat_map (message m.width xs) later) =
    sym (drop-drop c.args.column (row * m.width) xs)
    ∙ ap (drop c.args.column)
    (stored_rows xs m.width row (m.height - row) (m.full ∙ ap (λ h. h * m.width) end)) in
    rw (c.deref.ensures.value, take_rest xs start, ← stored)
    (sym (take_all (length (drop start xs)) (drop start xs) (omega arith)))
