-- Each lane of the columns is a row of the one matrix, or the row of all matrices.
use Rattle.std.proofs.Common.{arith, ℕ, ◌≡◌, ◌+◌, ◌<◌, ◌≤◌, ◌∙◌, List, All, ap, sym}
use Rattle.std.proofs.lemmas.Iterator.Consumers.{YieldsList-from_first}
use Rattle.p3_support.specs.Lists.{columns, columns_over, lane_of}
use Rattle.p3_support.proofs.RowReads.{lane_of_columns, lane_of_rows}
use Rattle.p3_support.proofs.Runs.{fact_of_run}
use Rattle.p3_merkle_hashing.specs.Inner.Slots.{rows_over}
use Rattle.p3_merkle_hashing.proofs.LaneFacts.{height_at, rows_alone}
use Rattle.p3_merkle_hashing.proofs.rows.LayerRows+P+PW+H+M+array+D+PW+Value.packed_digest.Goals as goal

pub returns-in-len1 : goal.returns-in-len1
returns-in-len1 g c = λ k below in_digest.
    let ms = c.args.self.now.matrices.now in
    let m = c.matrix-item.result in
    let row = c.args.row in
    let lanes = g.P.PackedValue.lanes in
    let default = g.P.PackedValue.default_value in
    let n = g.P.PackedValue.WIDTH in
    let width = g.M.Matrix.width_of m in
    let hash = g.H.CryptographicHasher.hash c.args.self.now.hash.now in
    let rows = rows_over g.M.Matrix.row_of ms in
    let seen = lane_of g.PW.PackedValue.lanes g.PW.PackedValue.default_value k c.hash_packed.result in
    let high = height_at g.M.Matrix.height_of c.args.self.now.height ms 0 m c.args.self.now.of_height (omega arith)
    c.matrix-item.is in
    let inside : row + k < g.M.Matrix.height_of m = omega (arith, high, c.requires) in
    fact_of_run lanes (λ xs. (j : ℕ) → j < n → j < g.PW.PackedValue.WIDTH →
    lane_of g.PW.PackedValue.lanes g.PW.PackedValue.default_value j c.hash_packed.result
    ≡ hash (lane_of lanes default j xs)) (seen ≡ hash (rows (row + k)))
    c.hash_packed.ensures
    (YieldsList-from_first lanes (λ rest. rest) (columns (g.M.Matrix.row_of m) default row n width)
    c.vertically_packed_row.ensures)
    (λ xs e h. h k below in_digest
    ∙ ap hash (lane_of_columns lanes (g.M.Matrix.row_of m) default row n k width xs e below
    (g.met.M.Matrix.length_row_of m (row + k) inside)
    ∙ sym (rows_alone g.M.Matrix.row_of (row + k) ms m (omega arith) c.matrix-item.is)))

-- all matrices have the rows of all lanes
tall : {M : Type 0} (height : M → ℕ) (h end : ℕ) (ms : List M) → All (λ m. height m ≡ h) ms → end ≤ h →
    All (λ m. end ≤ height m) ms
tall height h end ms all fits = λ k d b. rw (all k d b) fits

pub packed_rows_of-requires : goal.packed_rows_of-requires
packed_rows_of-requires g c =
    tall g.M.Matrix.height_of c.args.self.now.height (c.args.row + g.P.PackedValue.WIDTH) c.args.self.now.matrices.now
    c.args.self.now.of_height c.requires

pub returns : goal.returns
returns g c = λ k below in_digest.
    let ms = c.args.self.now.matrices.now in
    let row = c.args.row in
    let lanes = g.P.PackedValue.lanes in
    let default = g.P.PackedValue.default_value in
    let n = g.P.PackedValue.WIDTH in
    let hash = g.H.CryptographicHasher.hash c.args.self.now.hash.now in
    let digests = c.hash_packed-2.result in
    let seen = lane_of g.PW.PackedValue.lanes g.PW.PackedValue.default_value k digests in
    fact_of_run lanes (λ xs. (j : ℕ) → j < n → j < g.PW.PackedValue.WIDTH →
    lane_of g.PW.PackedValue.lanes g.PW.PackedValue.default_value j digests
    ≡ hash (lane_of lanes default j xs)) (seen ≡ hash (rows_over g.M.Matrix.row_of ms (row + k)))
    c.hash_packed-2.ensures
    (YieldsList-from_first lanes (λ rest. rest)
    (columns_over g.M.Matrix.row_of g.M.Matrix.width_of default row n ms) c.packed_rows_of.ensures)
    (λ xs e h. h k below in_digest
    ∙ ap hash (lane_of_rows g.M.Matrix.row_of g.M.Matrix.width_of default row n g.M.Matrix.height_of lanes k xs ms below
    g.met.M.Matrix.length_row_of
    (tall g.M.Matrix.height_of c.args.self.now.height (row + n) ms c.args.self.now.of_height c.requires) e))
