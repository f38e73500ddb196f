use Rattle.std.specs.List.{flat_map}
use Rattle.sha2.specs.Hashers.{Holds256}
use Rattle.p3_hashes.proofs.sha.Sha256RowsCryptographicHasherU8U832.hash_iter_slices.Given as goal

abbrev pub invariant-loop-bytes : goal.invariant-loop-bytes
invariant-loop-bytes g l = Holds256 l.hasher (flat_map g.S.AsSlice.items l.yielded)
