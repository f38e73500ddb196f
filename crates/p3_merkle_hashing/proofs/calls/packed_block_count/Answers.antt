-- The bytes of a group as they are computed are few where the group fits, and only there.
use Rattle.std.proofs.Common.{arith, ℕ, ◌≤◌, ◌<◌, ◌*◌}
use Rattle.std.proofs.Math.Nat.{mul-le-mul_right}
use Rattle.p3_merkle_hashing.proofs.LaneFacts.{array_small}
use Rattle.p3_merkle_hashing.proofs.calls.packed_block_count.Goals as goal

-- one of some rows is no larger than all
one_of : (n row m : ℕ) → 0 < n → n * row < m → row < m
one_of n row m some small = let one : 1 * row ≤ n * row = mul-le-mul_right row (omega arith) in
    omega (arith, one, small)

pub returns-then-bytes-lt9223372036854775808-clause-group :
    goal.returns-then-bytes-lt9223372036854775808-clause-group
returns-then-bytes-lt9223372036854775808-clause-group g c = λ some.
    array_small g.row.N g.row.D _ c.size_of_val.result c.saturating_mul.result c.saturating_mul-bytes.result
    c.size_of_val.ensures c.saturating_mul.ensures c.saturating_mul-bytes.ensures
    c.if-bytes-lt9223372036854775808.true

pub returns-then-bytes-lt9223372036854775808-clause-digest :
    goal.returns-then-bytes-lt9223372036854775808-clause-digest
returns-then-bytes-lt9223372036854775808-clause-digest g c = λ some.
    one_of g.row.N _ _ c.requires (returns-then-bytes-lt9223372036854775808-clause-group g c some)
