-- The lines so far are the matrices and the rows of the open block (`lines`), and the others are left (`left`).
use Rattle.std.proofs.Common.{◌≡◌, ◌+◌, ◌==◌, ◌<◌, ◌≤◌, List, ℕ, length, drop, get_or, map, sym, refl, ◌∙◌, subst, inl}
use Rattle.std.proofs.Common.{arith, rules}
use Rattle.std.proofs.lemmas.Result.{err_from_is_err_and}
use Rattle.std.specs.Prelude.{IfNone, IfSome}
use Rattle.std.specs.List.{slice_split}
use Rattle.mmcs_engine.specs.Input.{pieces_of}
use Rattle.mmcs_engine.proofs.InputFacts.{LinesSoFar, lines_fit}
use Rattle.mmcs_engine.proofs.InputFacts.{lines_start, lines_blank, lines_ended, lines_row, lines_refused, lines_end}
use Rattle.mmcs_engine.proofs.InputFacts.{lines_end_block, next_piece, pieces_all, pieces_cut, pieces_more, seen_is}
use Rattle.mmcs_engine.proofs.MatrixFacts.{Shows, matrices_found}
use Rattle.mmcs_engine.proofs.input.read_matrices.Given.{Over}
use Rattle.mmcs_engine.proofs.input.read_matrices.Goals.{After-cut_line}
use Rattle.mmcs_engine.proofs.input.read_matrices.Goals.{in-Some-take_matrix-2+in_ok-push-2, in_default-take_matrix-2}
use Rattle.mmcs_engine.proofs.input.read_matrices.Goals as goal

-- this turn's piece is the next one of the input
turn : (g : Over) (c : After-cut_line g) → (c.loop-rest.line < length (slice_split (λ b. b == 10) c.args.input.now)) ×
    (c.cut_line.result.0.now
    ≡ get_or (slice_split (λ b. b == 10) c.args.input.now) c.loop-rest.line c.cut_line.result.0.now)
    × IfSome c.cut_line.result.1 (λ below. drop (c.loop-rest.line + 1) (slice_split (λ b. b == 10) c.args.input.now)
    ≡ slice_split (λ b. b == 10) below.now)
    × IfNone c.cut_line.result.1 (length (slice_split (λ b. b == 10) c.args.input.now) ≤ c.loop-rest.line + 1)
turn g c =
    next_piece c.cut_line.result.1 (λ below. below.now) (slice_split (λ b. b == 10) c.args.input.now) c.loop-rest.line
    c.in-Some.left.now c.cut_line.result.0.now (rw c.in-Some.is at c.loop-rest.invariant.left)
    c.cut_line.ensures.cut
    c.cut_line.ensures.last

-- there are fewer lines than numbers
pub overflow_add-line : goal.overflow_add-line
overflow_add-line g c = let within =
    lines_fit c.args.input.now c.loop-rest.line (turn g (goal.at.overflow_add-line g c).After-cut_line).0 in
    search (rules, arith)

pub loop-rest-init : goal.loop-rest-init
loop-rest-init g c = record {
  left = refl;
  none = tt;
  lines = rw c.new-matrices.ensures.items
      (lines_start (c.new-block.ensures (g.W.Word.MAX + 1)));
}

-- a blank line ends the matrix
pub loop-rest-preserved-in-Continue-1 : goal.loop-rest-preserved-in-Continue-1
loop-rest-preserved-in-Continue-1 g c =
    let t = turn g (goal.at.loop-rest-preserved-in-Continue-1 g c).After-cut_line in
    record {
      left = t.2;
      none = t.3;
      lines =
          rw (
            c.in_ok-push.ensures.items,
            pieces_more c.args.input.now c.loop-rest.line c.cut_line.result.0.now
                c.without_return-text.result.now t.0 t.1 c.without_return-text.ensures,
          )
          (lines_ended c.loop-rest.invariant.lines c.without_return-text.result.now c.in-Some-take_matrix.matrix
          (sym c.is_blank.ensures ∙ c.if-is_blank.true) c.in-Some-take_matrix.ensures.some
          (c.take_matrix.ensures.emptied (g.W.Word.MAX + 1))
          (c.in-Some-take_matrix.ensures.matrix (g.W.Word.MAX + 1)));
    }

-- a blank line after no row
pub loop-rest-preserved-in_default-take_matrix : goal.loop-rest-preserved-in_default-take_matrix
loop-rest-preserved-in_default-take_matrix g c =
    let t = turn g (goal.at.loop-rest-preserved-in_default-take_matrix g c).After-cut_line in
    record {
      left = t.2;
      none = t.3;
      lines =
          rw (pieces_more c.args.input.now c.loop-rest.line c.cut_line.result.0.now c.without_return-text.result.now t.0
          t.1 c.without_return-text.ensures)
          (lines_blank c.loop-rest.invariant.lines c.without_return-text.result.now
          (sym c.is_blank.ensures ∙ c.if-is_blank.true)
          c.in_default-take_matrix.ensures.none (c.take_matrix.ensures.emptied (g.W.Word.MAX + 1)));
    }

-- any other line is a row
pub loop-rest-preserved : goal.loop-rest-preserved
loop-rest-preserved g c =
    let t = turn g (goal.at.loop-rest-preserved g c).After-cut_line in
    record {
      left = t.2;
      none = t.3;
      lines =
          rw (pieces_more c.args.input.now c.loop-rest.line c.cut_line.result.0.now c.without_return-text.result.now t.0
          t.1 c.without_return-text.ensures)
          (lines_row c.loop-rest.invariant.lines c.without_return-text.result.now c.in_ok-push_row.ensures.row);
    }

-- the first faulty line
pub returns-in_err-push_row-clause-fault : goal.returns-in_err-push_row-clause-fault
returns-in_err-push_row-clause-fault g c =
    let t = turn g (goal.at.returns-in_err-push_row-clause-fault g c).After-cut_line in
    let n = c.loop-rest.line in
    let left = err_from_is_err_and c.from_residual-in_err-push_row.result c.from_residual-in_err-push_row.ensures.1 in
    let seen = seen_is c.args.input.now n c.cut_line.result.0.now c.without_return-text.result.now t.0 t.1
    c.without_return-text.ensures in
    rw (left.1, left.2)
    (lines_refused c.loop-rest.invariant.lines c.without_return-text.result.now (pieces_of c.args.input.now) _ _ _
    (pieces_cut c.args.input.now n c.cut_line.result.0.now c.without_return-text.result.now t.0 t.1
    c.without_return-text.ensures)
    (omega (arith, seen)) (sym c.is_blank.ensures ∙ c.if-is_blank.false) c.in_err-push_row.ensures.fault)

-- the last matrix may end with the input
pub returns-clause-matrices : goal.returns-clause-matrices
returns-clause-matrices g c =
    let seen = pieces_all c.args.input.now c.loop-rest.line (rw c.in_default.is at c.loop-rest.invariant.none) in
    let limit = g.W.Word.MAX + 1 in
    let lines = subst (λ (ls : List (List ℕ)). LinesSoFar (Shows g.W.Word.value) limit ls c.loop-rest.matrices.items
    (map g.W.Word.value c.loop-rest.block.values.items) c.loop-rest.block.width) seen c.loop-rest.invariant.lines in
    elim c.match-take_matrix-2.branch [
      | in-Some-take_matrix-2+in_ok-push-2 w ↦
          let m = w.in-Some-take_matrix-2 in
          rw (w.matrices-is, w.in_ok-push-2.ensures.items)
          (matrices_found g.W.Word.value limit c.args.input.now _
          (lines_end_block lines m.matrix m.ensures.some (m.ensures.matrix limit)))
      | in_default-take_matrix-2 w ↦
          rw w.matrices-is
          (matrices_found g.W.Word.value limit c.args.input.now _
          (lines_end lines w.in_default-take_matrix-2.ensures.none))
    ]

-- the rows so far are a block
pub take_matrix-requires : goal.take_matrix-requires
take_matrix-requires g c = (g.W.Word.MAX + 1, c.loop-rest.invariant.lines.rows, c.loop-rest.invariant.lines.block)

pub take_matrix-requires-2 : goal.take_matrix-requires-2
take_matrix-requires-2 g c = (g.W.Word.MAX + 1, c.loop-rest.invariant.lines.rows, c.loop-rest.invariant.lines.block)

pub push_row-requires : goal.push_row-requires
push_row-requires g c = record { full = sym c.is_blank.ensures ∙ c.if-is_blank.false }

-- each turn is one line more
pub loop-rest-smaller-in-Continue-1 : goal.loop-rest-smaller-in-Continue-1
loop-rest-smaller-in-Continue-1 g c =
    let within = (turn g (goal.at.loop-rest-smaller-in-Continue-1 g c).After-cut_line).0 in omega arith

pub loop-rest-smaller-in_default-take_matrix : goal.loop-rest-smaller-in_default-take_matrix
loop-rest-smaller-in_default-take_matrix g c =
    let within = (turn g (goal.at.loop-rest-smaller-in_default-take_matrix g c).After-cut_line).0 in omega arith

pub loop-rest-smaller : goal.loop-rest-smaller
loop-rest-smaller g c =
    let within = (turn g (goal.at.loop-rest-smaller g c).After-cut_line).0 in omega arith

-- memory has run out
pub returns-in_err-push-clause-matrices : goal.returns-in_err-push-clause-matrices
returns-in_err-push-clause-matrices g c =
    rw (err_from_is_err_and c.from_residual.result c.from_residual.ensures.1).1 tt

pub returns-in_err-push-clause-fault : goal.returns-in_err-push-clause-fault
returns-in_err-push-clause-fault g c =
    let left = err_from_is_err_and c.from_residual.result c.from_residual.ensures.1 in rw (left.1, left.2) (inl refl)

pub returns-in_err-push-2-clause-matrices : goal.returns-in_err-push-2-clause-matrices
returns-in_err-push-2-clause-matrices g c =
    rw (err_from_is_err_and c.from_residual-in_err-push-2.result c.from_residual-in_err-push-2.ensures.1).1 tt

pub returns-in_err-push-2-clause-fault : goal.returns-in_err-push-2-clause-fault
returns-in_err-push-2-clause-fault g c =
    let left = err_from_is_err_and c.from_residual-in_err-push-2.result c.from_residual-in_err-push-2.ensures.1 in
    rw (left.1, left.2) (inl refl)

pub returns-in_err-push_row-clause-matrices : goal.returns-in_err-push_row-clause-matrices
returns-in_err-push_row-clause-matrices g c =
    rw (err_from_is_err_and c.from_residual-in_err-push_row.result c.from_residual-in_err-push_row.ensures.1).1 tt
