-- Two pieces of a row of the one matrix are the row.
use Rattle.std.proofs.Common.{arith, rules, ◌≡◌, ℕ, ◌+◌, ◌-◌, ◌++◌, ◌∙◌, ap, drop, length, sym, take}
use Rattle.std.proofs.Math.Seq.{take-add}
use Rattle.std.proofs.lemmas.List.{take_all}
use Rattle.std.specs.List.{flat_map}
use Rattle.std.specs.Prelude.{sum_by}
use Rattle.p3_support.proofs.RowReads.{piece_read}
use Rattle.p3_merkle_hashing.specs.Inner.Slots.{rows_over}
use Rattle.p3_merkle_hashing.proofs.LaneFacts.{height_at, one_element, rows_alone}
use Rattle.p3_merkle_hashing.proofs.rows.LayerRows+P+PW+H+M+array+D+PW+Value.row_digest.Goals as goal

pub returns-then-rest-right : goal.returns-then-rest-right
returns-then-rest-right g c =
    let ms = c.args.self.now.matrices.now in
    let m = c.matrix-item.result in
    let row = g.M.Matrix.row_of m in
    let w = g.M.Matrix.width_of m in
    let h = g.M.Matrix.height_of m in
    let r = c.args.row in
    let hash = g.H.CryptographicHasher.hash c.args.self.now.hash.now in
    let left = c.piece-left.result.now in
    let right = c.piece-right.result.now in
    let n : ℕ = length left in
    let rest : ℕ = c.args.len - n in
    let high = height_at g.M.Matrix.height_of c.args.self.now.height ms 0 m c.args.self.now.of_height (omega arith)
    c.matrix-item.is in
    let sum : c.args.len ≡ 0 + w = c.requires.len
    ∙ ap (sum_by g.M.Matrix.width_of) (one_element ms m (omega arith) c.matrix-item.is) in
    let wide : n + rest ≡ w = omega (arith, sum, c.if-left-len.true) in
    let front : left ≡ take n (row r) = sym (take_all n left (omega arith))
    ∙ piece_read row w h r 0 n left (g.met.M.Matrix.length_row_of m) (omega (arith, high, c.requires.row))
    (omega (arith, wide)) (omega arith) c.piece-left.ensures in
    let back : take rest right ≡ take rest (drop n (row r)) =
    piece_read row w h r n rest right (g.met.M.Matrix.length_row_of m) (omega (arith, high, c.requires.row))
    (omega (arith, wide)) c.if-rest-right.true c.piece-right.ensures in
    let read : c.hash_iter_slices.result ≡ hash (flat_map (λ words. words.now) c.both-pieces.result) = search rules in
    let all : flat_map (λ words. words.now) c.both-pieces.result ≡ rows_over g.M.Matrix.row_of ms r =
    c.both-pieces.ensures ∙ ap (λ l. l ++ take rest right) front ∙ ap (λ l. take n (row r) ++ l) back
    ∙ sym (take-add n rest (row r))
    ∙ take_all (n + rest) (row r)
    (omega (arith, g.met.M.Matrix.length_row_of m r (omega (arith, high, c.requires.row)), wide))
    ∙ sym (rows_alone g.M.Matrix.row_of r ms m (omega arith) c.matrix-item.is) in
    read ∙ ap hash all
