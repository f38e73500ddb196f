-- The slots of the blocks so far have the digests of their rows; those of the rest up to the height follow, and the
-- others stay.
use Rattle.std.proofs.Common.{arith, ◌≡◌, ℕ, ◌+◌, ◌-◌, ◌*◌, ◌<◌, ◌≤◌, ◌∙◌, [], ap, length, refl, replicate}
use Rattle.std.proofs.Common.{slice_index_or}
use Rattle.std.proofs.lemmas.Bool.{le-ltb, lt-ltb}
use Rattle.std.proofs.lemmas.List.{length-take-le}
use Rattle.std.proofs.lemmas.Result.{IfOk-weaker}
use Rattle.p3_support.specs.Lists.{lane_of}
use Rattle.p3_merkle_hashing.specs.Inner.Slots.{leaf_over, rows_over, IsFilled}
use Rattle.p3_merkle_hashing.proofs.LaneFacts.{group_more}
use Rattle.p3_merkle_hashing.proofs.StageFacts.{all_filled}
use Rattle.p3_merkle_hashing.proofs.rows.LayerRows+P+PW+H+M+array+D+PW+Value.fill.Goals as goal
use Rattle.p3_merkle_hashing.proofs.rows.LayerRows+P+PW+H+M+array+D+PW+Value.fill.Goals.{then-LANES-gt1, else-LANES-gt1}

pub loop-block-preserved : goal.loop-block-preserved
loop-block-preserved g c =
    let w = g.PW.PackedValue.WIDTH in
    let block = c.loop-block.block in
    let hash = g.H.CryptographicHasher.hash c.args.self.now.hash.now in
    let rows = rows_over g.M.Matrix.row_of c.args.self.now.matrices.now in
    let first = c.args.first in
    let f = λ (j : ℕ). hash (rows (first + j)) in
    let xs = c.loop-block.digests in
    let ys = c.unpack_at.new.rows in
    let seen = λ (k : ℕ). lane_of g.PW.PackedValue.lanes g.PW.PackedValue.default_value k
    c.packed_digest-packed.result in
    let written : (k : ℕ) → k < w → slice_index_or ys (block * w + k) [] ≡ seen k =
    rw c.WIDTH.ensures at c.unpack_at.ensures.lanes in
    let kept : (j : ℕ) → j < block * w → slice_index_or ys j [] ≡ slice_index_or xs j [] =
    rw c.WIDTH.ensures at c.unpack_at.ensures.before in
    let hashed : (k : ℕ) → k < w → seen k ≡ f (block * w + k) = λ k small.
    let row : first + block * w + k ≡ first + (block * w + k) = omega arith in
    (rw (c.WIDTH.ensures, c.requires.lanes) at c.packed_digest-packed.ensures) k small small
    ∙ ap (λ i. hash (rows i)) row in
    record {
      long = c.unpack_at.ensures.long ∙ c.loop-block.invariant.long;
      filled = group_more f seen xs ys block w [] written hashed kept c.loop-block.invariant.filled;
    }

pub returns : goal.returns
returns g c =
    let old = c.args.slots.now in
    let first = c.args.first in
    let h = c.args.self.now.height in
    let count = c.min-count.result in
    let hash = g.H.CryptographicHasher.hash c.args.self.now.hash.now in
    let rows = rows_over g.M.Matrix.row_of c.args.self.now.matrices.now in
    let d = replicate g.row.D g.PW.PackedValue.default_value in
    let leaf = λ (j : ℕ). leaf_over hash d rows h (first + j) in
    let front = c.loop-block.digests in
    let blocks = c.packed_block_count-blocks.result in
    let done : ℕ = blocks * c.WIDTH-2.result in
    let made = λ (j : ℕ). hash (rows (first + done + j)) in
    let whole : length front ≡ count = c.loop-block.invariant.long ∙ length-take-le count old (omega arith) in
    let end : c.loop-block.block ≡ blocks = omega arith in
    let at : c.loop-block.block * g.PW.PackedValue.WIDTH ≡ done = rw (c.WIDTH-2.ensures, end) refl in
    let few : done ≤ count = elim c.if-LANES-gt1.branch [
      | then-LANES-gt1 w ↦ rw c.WIDTH-2.ensures (omega (arith, c.packed_block_count-blocks.ensures.count))
      | else-LANES-gt1 w ↦ rw c.WIDTH-2.ensures (omega (arith, c.packed_block_count-blocks.ensures.count))
    ] in
    let inside : (j : ℕ) → j < count → hash (rows (first + j)) ≡ leaf j = λ j low.
    let there : first + j < h = omega (arith, low) in rw (lt-ltb (first + j) h there) refl in
    let so_far : IsFilled leaf done count front = record {
      long = whole;
      filled = λ j low. c.loop-block.invariant.filled j (rw at low) ∙ inside j (omega (arith, low, few));
    } in
    IfOk-weaker c.fill_batched.result _ _
    (λ ok is. all_filled leaf made d old front c.fill_batched.new.slots done (length front - done) count
    c.requires.blank (omega arith) (omega (arith, whole)) few is
    (λ j low.
    let row : first + done + j ≡ first + (done + j) = omega arith in
    ap (λ i. hash (rows i)) row ∙ inside (done + j) low)
    (λ j past low. let out : h ≤ first + j = omega (arith, past, low) in rw (le-ltb (first + j) h out) refl) so_far)
    c.fill_batched.ensures
