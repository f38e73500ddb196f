-- A byte is alone in its lane.
use Rattle.std.proofs.Common.{◌∙◌, ap, sym}
use Rattle.p3_hashes.specs.Sha.{sha256_nodes}
use Rattle.p3_support.proofs.LaneReads.{only_lane, only_lanes}
use Rattle.p3_hashes.proofs.sha.Sha256NodesPseudoCompressionFunctionU8.compress_packed.Goals as goal

pub returns : goal.returns
returns g c = λ k below. only_lane 0 k c.array.result below ∙ c.array.ensures ∙ c.hash_group.ensures
    ∙ ap sha256_nodes (sym (only_lanes 0 k c.args.input below))
