-- The next element of the rows, and the matrices that are left out.
use Rattle.std.proofs.Common.{arith, ◌<◌, ◌≤◌, ◌∙◌, sym, length}
use Rattle.std.proofs.lemmas.Bool.{eq-eqb}
use Rattle.p3_support.proofs.RowReads.{rows_more, rows_none, rows_skip}
use Rattle.p3_support.proofs.rows.RowsIterator.next.Goals as goal
use Rattle.p3_support.proofs.rows.RowsIterator.next.Goals.{else-height-self-via-then-height-self+else-self-width}
use Rattle.p3_support.proofs.rows.RowsIterator.next.Goals.{else-height-self-via-else-height-self}

pub returns-then-self-width-clause-steps : goal.returns-then-self-width-clause-steps
returns-then-self-width-clause-steps g c =
    let s = c.loop-first.self-inside in
    let m = c.in-Some.first.now in
    let same = eq-eqb (g.M.Matrix.height_of m) s.height (sym c.height.ensures ∙ c.if-height-self.true) in
    sym c.self.view_is ∙ sym c.loop-first.invariant.1
    ∙ rows_more g.M.Matrix.height_of g.M.Matrix.row_of s.height s.row m c.in-Some.others.now s.matrices.now s.next
    c.get-item.result c.in-Some.ensures.cases.0 same c.get-item.ensures

-- a matrix of another height, or one that is read to its end, is left out
pub loop-first-preserved : goal.loop-first-preserved
loop-first-preserved g c =
    let s = c.loop-first.self-inside in
    let m = c.in-Some.first.now in
    let skip = rows_skip g.M.Matrix.height_of g.M.Matrix.row_of s.height s.row m c.in-Some.others.now s.matrices.now
    s.next c.in-Some.ensures.cases.0 in
    elim c.else-height-self.branch [
      | else-height-self-via-then-height-self+else-self-width w ↦
          let inside : s.row < g.M.Matrix.height_of m =
          rw (← c.height.ensures, w.if-height-self.true) c.loop-first.invariant.0 in
          let read : length (g.M.Matrix.row_of m s.row) ≤ s.next =
          omega (arith, g.met.M.Matrix.length_row_of m s.row inside, w.width.ensures, w.if-self-width.false) in
          (c.loop-first.invariant.0, skip (λ same. read) ∙ c.loop-first.invariant.1)
      | else-height-self-via-else-height-self w ↦ (
        c.loop-first.invariant.0,
        skip (λ same. absurd (w.if-height-self.false (c.height.ensures ∙ same)))
            ∙ c.loop-first.invariant.1,
      )
    ]

pub returns-clause-steps : goal.returns-clause-steps
returns-clause-steps g c =
    let s = c.loop-first.self-inside in
    let none = rows_none g.M.Matrix.height_of g.M.Matrix.row_of s.height s.row s.matrices.now s.next
    c.in_default.ensures.cases in
    (sym c.self.view_is ∙ sym c.loop-first.invariant.1 ∙ none, none)
