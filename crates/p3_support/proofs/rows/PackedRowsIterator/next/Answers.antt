-- The next column of the rows, and the matrices that are left out.
use Rattle.std.proofs.Common.{arith, ◌≡◌, ◌+◌, ◌<◌, ◌≤◌, ◌∙◌, ap, length, sym}
use Rattle.std.specs.Prelude.{slice_index_or}
use Rattle.std.proofs.lemmas.List.FromFn.{fill_by_all}
use Rattle.p3_support.specs.Lists.{column_of_rows}
use Rattle.p3_support.proofs.RowReads.{all_split, columns_more, columns_none, columns_skip}
use Rattle.p3_support.proofs.rows.PackedRowsIterator.next.Goals as goal
use Rattle.p3_support.proofs.rows.PackedRowsIterator.next.Goals.{in-Some-stored, in-None}

pub stored_column-item-requires : goal.stored_column-item-requires
stored_column-item-requires g c =
    let s = c.loop-first.self-inside in
    let inside : s.next < g.M.Matrix.width_of c.in-Some.first.now =
    omega (arith, c.width-width.ensures, c.if-self-width.true) in
    let lies = rw c.in-Some.ensures.cases.0 at (rw c.in-Some-stored.is at c.loop-first.invariant.0.1) in
    record {
      first = omega (arith, (lies.1 0 s.next lies.0 inside).0);
      inside = λ k below. rw c.width-width.ensures (lies.1 k s.next below inside).0;
    }

pub packed_column-item-requires-clause-rows : goal.packed_column-item-requires-clause-rows
packed_column-item-requires-clause-rows g c =
    let s = c.loop-first.self-inside in
    (all_split (λ m. s.row + g.P.PackedValue.WIDTH ≤ g.M.Matrix.height_of m) c.in-Some.first.now c.in-Some.others.now
    s.matrices.now c.in-Some.ensures.cases.0 c.loop-first.invariant.0.0).0

pub stored_rows-self-inside-requires : goal.stored_rows-self-inside-requires
stored_rows-self-inside-requires g c =
    let s = c.loop-first.self-inside in
    (all_split (λ m. s.row + g.P.PackedValue.WIDTH ≤ g.M.Matrix.height_of m) c.in-Some.first.now c.in-Some.others.now
    s.matrices.now c.in-Some.ensures.cases.0 c.loop-first.invariant.0.0).1

pub returns-then-self-width-clause-steps : goal.returns-then-self-width-clause-steps
returns-then-self-width-clause-steps g c =
    let s = c.loop-first.self-inside in
    let m = c.in-Some.first.now in
    let row = g.M.Matrix.row_of m in
    let default = g.P.PackedValue.default_value in
    let n = g.P.PackedValue.WIDTH in
    let inside : s.next < g.M.Matrix.width_of m = omega (arith, c.width-width.ensures, c.if-self-width.true) in
    let column : g.P.PackedValue.lanes c.match-self.item ≡ column_of_rows row default s.row n s.next =
    elim c.match-self.branch [
      | in-Some-stored w ↦
          let lies = rw c.in-Some.ensures.cases.0 at (rw w.in-Some-stored.is at c.loop-first.invariant.0.1) in
          let packed = w.stored_column-item.result in
          ap g.P.PackedValue.lanes w.item-is
          ∙ fill_by_all (λ k. slice_index_or (row (s.row + k)) s.next default) (g.P.PackedValue.lanes packed) n default
          (g.met.P.PackedValue.length_lanes packed)
          (λ k h. rw c.width-width.ensures at (w.stored_column-item.ensures k h) ∙ (lies.1 k s.next h inside).1 default)
      | in-None w ↦ ap g.P.PackedValue.lanes w.item-is ∙ w.packed_column-item.ensures
    ] in
    rw column (sym c.self.view_is ∙ sym c.loop-first.invariant.1
    ∙ columns_more g.M.Matrix.row_of g.M.Matrix.width_of default s.row n m c.in-Some.others.now s.matrices.now s.next
    c.in-Some.ensures.cases.0 inside)

-- a matrix that is read to its end is left out
pub loop-first-preserved : goal.loop-first-preserved
loop-first-preserved g c =
    let s = c.loop-first.self-inside in
    let n = g.P.PackedValue.WIDTH in
    let m = c.in-Some.first.now in
    let ms = c.in-Some.others.now in
    let is = c.in-Some.ensures.cases.0 in (
      (
        (all_split (λ m. s.row + n ≤ g.M.Matrix.height_of m) m ms s.matrices.now is c.loop-first.invariant.0.0).1,
        c.stored_rows-self-inside.ensures,
      ),
      columns_skip g.M.Matrix.row_of g.M.Matrix.width_of g.P.PackedValue.default_value s.row n m ms s.matrices.now
          s.next is (omega (arith, c.width-width.ensures, c.if-self-width.false)) ∙ c.loop-first.invariant.1,
    )

pub returns-clause-steps : goal.returns-clause-steps
returns-clause-steps g c =
    let s = c.loop-first.self-inside in
    let none = columns_none g.M.Matrix.row_of g.M.Matrix.width_of g.P.PackedValue.default_value s.row
    g.P.PackedValue.WIDTH s.matrices.now s.next c.in_default.ensures.cases in
    (sym c.self.view_is ∙ sym c.loop-first.invariant.1 ∙ none, none)

pub returns-then-self-width-clause-goes : goal.returns-then-self-width-clause-goes
returns-then-self-width-clause-goes g c =
    let steps = ap length (returns-then-self-width-clause-steps g c) in
    record { on = λ _. (tt, tt, omega (arith, steps)); keeps = tt; rests = λ _. tt }
