-- A node is alone in its lane.
use Rattle.std.proofs.Common.{◌∙◌, ap, sym}
use Rattle.p3_support.proofs.LaneReads.{only_lane, only_lanes}
use Rattle.tlog_multiproof.specs.Nodes.{parent_digest}
use Rattle.tlog_multiproof.specs.declared.tree.Node.TheVariants.{Absent}
use Rattle.tlog_multiproof.proofs.tree.NodeHashesPseudoCompressionFunctionNode21.compress_packed.Goals as goal

pub returns : goal.returns
returns g c = λ k below. only_lane Absent k c.compress.result below ∙ c.compress.ensures
    ∙ ap (parent_digest g.H.LogHash.hash) (sym (only_lanes Absent k c.args.input below))
