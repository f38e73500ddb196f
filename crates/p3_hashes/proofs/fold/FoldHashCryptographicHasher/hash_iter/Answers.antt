use Rattle.std.proofs.Common.{◌∙◌, ap, sym, arith}
use Rattle.p3_hashes.specs.Fold.{fold_hash}
use Rattle.p3_support.proofs.LaneReads.{single_lane}
use Rattle.p3_hashes.proofs.fold.FoldHashCryptographicHasher.hash_iter.Goals as goal

pub returns : goal.returns
returns g c =
    let run = c.hash_lanes.ensures in (
      run.0,
      run.1,
      run.2,
      sym (single_lane 0 c.hash_lanes.result) ∙ run.3 0 (omega arith)
          ∙ ap (fold_hash g.row.D) (single_lane 0 run.0.items),
    )
