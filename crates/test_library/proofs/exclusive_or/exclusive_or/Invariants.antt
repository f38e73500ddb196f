use Rattle.std.proofs.Common.{◌≡◌, ℕ, ◌<◌, length, slice_index_or, bit_xor}
use Rattle.test_library.proofs.exclusive_or.exclusive_or.Given as goal

abbrev pub invariant-loop-e : goal.invariant-loop-e
invariant-loop-e l =
    (length l.digest ≡ 32)
    × ((j : ℕ) → j < l.e → slice_index_or l.digest j 0
    ≡ bit_xor (slice_index_or l.left j 0) (slice_index_or l.right j 0))
