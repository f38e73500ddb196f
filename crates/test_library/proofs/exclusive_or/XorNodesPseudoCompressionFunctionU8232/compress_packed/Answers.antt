-- A byte is alone in its lane.
use Rattle.std.proofs.Common.{◌∙◌, ℕ, List, ap, sym, slice_index_or, [], bit_xor}
use Rattle.std.specs.Simd.Lanes.{zip2}
use Rattle.p3_support.proofs.LaneReads.{only_lane, only_lanes}
use Rattle.test_library.proofs.exclusive_or.XorNodesPseudoCompressionFunctionU8232.compress_packed.Goals as goal

pub returns : goal.returns
returns c = λ k below.
    let digest = λ (digests : List (List ℕ)). zip2 bit_xor (slice_index_or digests 0 [])
    (slice_index_or digests 1 []) in
    only_lane 0 k c.exclusive_or.result below ∙ c.exclusive_or.ensures
    ∙ ap digest (sym (only_lanes 0 k c.args.input below))
