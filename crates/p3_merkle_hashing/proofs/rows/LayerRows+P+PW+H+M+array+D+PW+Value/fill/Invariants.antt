use Rattle.std.proofs.Common.{ℕ, ◌+◌, ◌*◌, length}
use Rattle.p3_merkle_hashing.specs.Inner.Slots.{rows_over, IsFilled}
use Rattle.p3_merkle_hashing.proofs.rows.LayerRows+P+PW+H+M+array+D+PW+Value.fill.Given as goal

-- the blocks so far are written
abbrev pub invariant-loop-block : goal.invariant-loop-block
invariant-loop-block g l =
    IsFilled (λ (j : ℕ). g.H.CryptographicHasher.hash l.self.hash.now
    (rows_over g.M.Matrix.row_of l.self.matrices.now (l.first + j))) (l.block * g.PW.PackedValue.WIDTH)
    (length l.initial.digests) l.digests
