use Rattle.std.proofs.Common.{◌≡◌}
use Rattle.std.specs.List.{flat_map}
use Rattle.p3_hashes.specs.Fold.{fold_hash}
use Rattle.p3_hashes.proofs.fold.FoldHashCryptographicHasher.hash_iter_slices.Given as goal

abbrev pub invariant-loop-words : goal.invariant-loop-words
invariant-loop-words g l = l.state ≡ fold_hash g.row.D (flat_map g.S.AsSlice.items l.yielded)
