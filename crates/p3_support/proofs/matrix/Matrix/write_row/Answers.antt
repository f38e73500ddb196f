-- Each turn writes the elements of a piece.
use Rattle.std.proofs.Common.{arith, ◌≡◌, ◌≤◌, ℕ, ◌+◌, ◌-◌, ◌++◌, ◌∙◌, ap, drop, length, length-drop, sym, take}
use Rattle.std.proofs.Math.Seq.{take-add}
use Rattle.std.proofs.lemmas.List.{length-take-le}
use Rattle.std.proofs.lemmas.Slice.{take-put_mid}
use Rattle.p3_support.proofs.RowReads.{piece_read}
use Rattle.p3_support.proofs.matrix.Matrix.write_row.Goals as goal
use borrow.Rule.Slice.PartMut.{same_len_mid}

pub loop-piece-preserved : goal.loop-piece-preserved
loop-piece-preserved g c =
    let m = c.args.self.now in
    let row = g.Self.Matrix.row_of m in
    let column = c.loop-piece.column in
    let count = c.min-count.result in
    let out = c.loop-piece.out in
    let piece = c.piece-piece.result.now in
    let part = c.copy_from_slice.new.self in
    let k : ℕ = column + count - column in
    let within : column + count ≤ length c.args.out.now = omega (arith, c.min-count.ensures) in
    let long = c.loop-piece.invariant.long in
    let some : length (take k (drop column out)) ≡ count =
    length-take-le k (drop column out) (omega (arith, within, long, length-drop column out)) ∙ omega arith in
    let made : part ≡ take count (drop column (row c.args.row)) =
    c.copy_from_slice.ensures.after
    ∙ piece_read row (g.Self.Matrix.width_of m) (g.Self.Matrix.height_of m) c.args.row column count piece
    (g.met.Self.Matrix.length_row_of m) c.requires.row_in (omega (arith, within, c.requires.row_fills))
    (omega (arith, c.min-count.ensures)) c.piece-piece.ensures in
    let same : length part ≡ count =
    ap length c.copy_from_slice.ensures.after
    ∙ length-take-le count piece (omega (arith, c.min-count.ensures)) in
    record {
      within = within;
      long = same_len_mid column k out part (same ∙ sym some) ∙ long;
      written = take-put_mid column k out part (column + count) (omega (arith, same)) (omega (arith, within, long))
          ∙ ap (λ l. l ++ part) c.loop-piece.invariant.written
          ∙ ap (λ l. take column (row c.args.row) ++ l) made
          ∙ sym (take-add column count (row c.args.row));
    }
