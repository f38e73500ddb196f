-- Each turn appends the elements of a piece.
use Rattle.std.proofs.Common.{arith, ◌≡◌, ℕ, List, ◌+◌, ◌++◌, ◌∙◌, append_assoc, ap, drop, sym, take}
use Rattle.std.proofs.Math.Seq.{take-add}
use Rattle.p3_support.proofs.RowReads.{piece_read}
use Rattle.p3_support.proofs.matrix.Matrix.append_row.Goals as goal

-- n more elements of a row
more : {A : Type 0} (xs ys zs row : List A) (c n : ℕ) → ys ≡ xs ++ take c row → zs ≡ ys ++ take n (drop c row) →
    zs ≡ xs ++ take (c + n) row
more xs ys zs row c n before now =
    now ∙ ap (λ l. l ++ take n (drop c row)) before ∙ append_assoc xs (take c row) (take n (drop c row))
    ∙ ap (λ l. xs ++ l) (sym (take-add c n row))

pub loop-piece-preserved : goal.loop-piece-preserved
loop-piece-preserved g c =
    let m = c.args.self.now in
    let row = g.Self.Matrix.row_of m in
    let column = c.loop-piece.column in
    let count = c.min-count.result in
    record {
      within = omega (arith, c.min-count.ensures);
      appended = more c.args.words.now.items c.loop-piece.words.items c.extend_from_slice.new.self.items
          (row c.args.row) column count c.loop-piece.invariant.appended
          (c.in_ok-extend_from_slice.ensures.items
          ∙ ap (λ l. c.loop-piece.words.items ++ l)
          (piece_read row (g.Self.Matrix.width_of m) (g.Self.Matrix.height_of m) c.args.row column count
          c.piece-piece.result.now (g.met.Self.Matrix.length_row_of m) c.requires
          (omega (arith, c.min-count.ensures, c.width-width.ensures)) (omega (arith, c.min-count.ensures))
          c.piece-piece.ensures));
    }
