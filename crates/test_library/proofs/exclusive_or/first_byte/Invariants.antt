use Rattle.std.proofs.Common.{◌≡◌, slice_get}
use Rattle.test_library.proofs.exclusive_or.first_byte.Given as goal

abbrev pub invariant-loop-byte : goal.invariant-loop-byte
invariant-loop-byte g l = l.first ≡ slice_get l.yielded 0
