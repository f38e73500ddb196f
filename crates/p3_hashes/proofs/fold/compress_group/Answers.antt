use Rattle.std.proofs.Common.{◌∙◌, ap, sym, arith}
use Rattle.p3_hashes.specs.Fold.{fold_compress}
use Rattle.p3_support.proofs.LaneReads.{single_lane, single_lanes}
use Rattle.p3_hashes.proofs.fold.compress_group.Goals as goal

pub returns : goal.returns
returns g c =
    sym (single_lane 0 c.compress_lanes.result) ∙ c.compress_lanes.ensures 0 (omega arith)
    ∙ ap (fold_compress g.row.D) (single_lanes 0 c.args.children.now)
