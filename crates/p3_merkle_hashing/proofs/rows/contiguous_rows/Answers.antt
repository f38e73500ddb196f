-- A lone matrix may lend its own rows; else they are written one after another.
use Rattle.std.proofs.Common.{arith, ◌≡◌, ◌+◌, ◌-◌, ◌*◌, ◌^◌, ◌∙◌, ap, sym}
use Rattle.std.proofs.Common.{take}
use Rattle.std.specs.List.{flat_map, range_with_len}
use Rattle.std.specs.Prelude.{sum_by}
use Rattle.p3_support.proofs.Draws.{product_made}
use Rattle.p3_support.proofs.RowReads.{cut_piece, whole_rows}
use Rattle.p3_merkle_hashing.specs.Inner.Slots.{rows_over}
use Rattle.p3_merkle_hashing.proofs.LaneFacts.{height_at, one_element, rows_alone}
use Rattle.p3_merkle_hashing.proofs.StageFacts.{staged_rows}
use Rattle.p3_merkle_hashing.proofs.rows.contiguous_rows.Goals as goal

pub returns-then-words-piece : goal.returns-then-words-piece
returns-then-words-piece g c =
    let ms = c.args.matrices.now in
    let m = c.matrix-item.result in
    let row = g.M.Matrix.row_of m in
    let w = g.M.Matrix.width_of m in
    let h = g.M.Matrix.height_of m in
    let first = c.args.first in
    let n = c.args.count in
    let high = height_at g.M.Matrix.height_of c.args.height ms 0 m c.requires.heights (omega arith) c.matrix-item.is in
    let sum : c.args.len ≡ 0 + w = c.requires.len
    ∙ ap (sum_by g.M.Matrix.width_of) (one_element ms m (omega arith) c.matrix-item.is) in
    let wide : c.args.len ≡ w = omega (arith, sum) in
    let many : c.in_ok-words.words ≡ n * w = (product_made c.checked_mul.result (n * c.args.len) (2 ^ 64)
    c.in_ok-words.words c.checked_mul.ensures c.in_ok-words.ensures.ok_part).1 ∙ ap (λ k. n * k) wide in
    let later = range_with_len first (h - first) in
    let words : take c.in_ok-words.words c.piece-piece.result.now ≡ flat_map row (range_with_len first n) =
    cut_piece c.piece-piece.result.now (flat_map row later) c.in_ok-words.words c.piece-piece.ensures
    c.if-words-piece.true
    ∙ ap (λ k. take k (flat_map row later)) many
    ∙ whole_rows row w h first n (g.met.M.Matrix.length_row_of m) (omega (arith, high, c.requires.inside)) in
    rw words (staged_rows row w (λ j. rows_over g.M.Matrix.row_of ms (first + j)) first n
    (λ r below. g.met.M.Matrix.length_row_of m r (omega (arith, high, below, c.requires.inside)))
    (λ j below. sym (rows_alone g.M.Matrix.row_of (first + j) ms m (omega arith) c.matrix-item.is)))
