-- Once each matrix is written, the rows are messages of one length.
use Rattle.std.proofs.Common.{arith, ◌≡◌, ℕ, ◌+◌, ◌-◌, ◌*◌, ◌∙◌, [], ap, drop, sym, take}
use Rattle.std.proofs.Math.Nat.{mul_comm}
use Rattle.std.proofs.lemmas.List.{take_all}
use Rattle.std.proofs.lemmas.List.FromFn.{fill_by_all, get_or-map-range_with_len, length-map-range_with_len}
use Rattle.std.specs.Prelude.{sum_by}
use Rattle.p3_support.specs.Inner.RowLengths.{next_start}
use Rattle.p3_support.specs.Lists.{message, messages}
use Rattle.p3_merkle_hashing.specs.Inner.Slots.{rows_over}
use Rattle.p3_merkle_hashing.proofs.rows.write_rows.Goals as goal

pub returns : goal.returns
returns g c =
    let ms = c.args.matrices.now in
    let row = g.M.Matrix.row_of in
    let w = c.args.len in
    let n = c.args.count in
    let xs = c.loop-matrix.out in
    let i = c.loop-matrix.matrix-index in
    let rows = λ (j : ℕ). rows_over row ms (c.args.first + j) in
    let all : take i ms ≡ ms = take_all i ms (omega arith) in
    let whole : c.loop-matrix.start ≡ w = c.loop-matrix.invariant.at ∙ ap (sum_by g.M.Matrix.width_of) all
    ∙ sym c.requires.len in
    record {
      width = w;
      long = c.loop-matrix.invariant.long ∙ c.requires.long ∙ mul_comm n w;
      are = fill_by_all rows (messages w n xs) n [] (length-map-range_with_len (message w xs) 0 n)
          (λ j below.
          let one : (j + 1) * w - j * w ≡ c.loop-matrix.start = omega (arith, next_start j w, whole) in
          get_or-map-range_with_len (message w xs) 0 n j j [] below (omega arith)
          ∙ ap (λ k. take k (drop (j * w) xs)) one
          ∙ c.loop-matrix.invariant.written j below
          ∙ ap (λ l. rows_over row l (c.args.first + j)) all);
    }
