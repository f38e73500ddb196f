-- At the row's end no column is left; before it, the next column is the first of those that are left.
use Rattle.std.proofs.Common.{rules, arith, ◌≡◌, ◌∙◌, sym, ap, length, drop}
use Rattle.p3_support.specs.Lists.{column_of_rows, columns}
use Rattle.p3_support.proofs.RowReads.{drop_column, drop_columns}
use Rattle.p3_support.proofs.matrix.PackedRowIterator.next.Goals as goal

pub returns-then-self-width-clause-steps : goal.returns-then-self-width-clause-steps
returns-then-self-width-clause-steps g c =
    let s = c.self.inside in
    let column = column_of_rows (g.M.Matrix.row_of s.matrix.now) g.P.PackedValue.default_value s.row
    g.P.PackedValue.WIDTH in
    let end : s.next ≡ g.M.Matrix.width_of s.matrix.now = search rules in
    let none = sym c.self.view_is
    ∙ ap (λ n. drop n
    (columns (g.M.Matrix.row_of s.matrix.now) g.P.PackedValue.default_value s.row g.P.PackedValue.WIDTH
    (g.M.Matrix.width_of s.matrix.now))) end ∙ drop_columns column (g.M.Matrix.width_of s.matrix.now) in
    (none, none)

pub returns-clause-steps : goal.returns-clause-steps
returns-clause-steps g c =
    let s = c.self.inside in
    let column = column_of_rows (g.M.Matrix.row_of s.matrix.now) g.P.PackedValue.default_value s.row
    g.P.PackedValue.WIDTH in
    rw c.packed_column-item.ensures (sym c.self.view_is
    ∙ drop_column column s.next (g.M.Matrix.width_of s.matrix.now) (search rules))

pub returns-clause-goes : goal.returns-clause-goes
returns-clause-goes g c =
    let steps = ap length (returns-clause-steps g c) in
    record { on = λ _. (tt, tt, omega (arith, steps)); keeps = tt; rests = λ _. tt }
