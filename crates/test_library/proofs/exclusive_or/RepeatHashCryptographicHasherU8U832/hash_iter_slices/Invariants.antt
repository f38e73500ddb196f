use Rattle.std.proofs.Common.{◌≡◌, slice_get}
use Rattle.std.specs.List.{flat_map}
use Rattle.test_library.proofs.exclusive_or.RepeatHashCryptographicHasherU8U832.hash_iter_slices.Given as goal

abbrev pub invariant-loop-bytes : goal.invariant-loop-bytes
invariant-loop-bytes g l = l.first ≡ slice_get (flat_map g.S.AsSlice.items l.yielded) 0
