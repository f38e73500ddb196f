use Rattle.std.proofs.Common.{◌≡◌, ℕ, ◌<◌, length, slice_index_or, []}
use Rattle.p3_support.proofs.compress.PseudoCompressionFunction.compress_many.Given as goal

abbrev pub invariant-loop-i : goal.invariant-loop-i
invariant-loop-i g l =
    (length l.out ≡ length l.initial.out)
    × ((j : ℕ) → j < l.i → slice_index_or l.out j []
    ≡ g.Self.PseudoCompressionFunction.compression l.self (slice_index_or l.groups j []))
