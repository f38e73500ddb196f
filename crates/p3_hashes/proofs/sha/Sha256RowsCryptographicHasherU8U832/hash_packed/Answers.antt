-- A byte is alone in its lane.
use Rattle.std.proofs.Common.{◌∙◌, ap, sym}
use Rattle.p3_hashes.specs.Sha.{sha256_rows}
use Rattle.p3_support.proofs.LaneReads.{only_lane}
use Rattle.p3_hashes.proofs.sha.Sha256RowsCryptographicHasherU8U832.hash_packed.Goals as goal

pub returns : goal.returns
returns g c =
    let run = c.hash_bytes.ensures in (
      run.0,
      run.1,
      run.2,
      λ k below same. only_lane 0 k c.hash_bytes.result below ∙ run.3
          ∙ ap sha256_rows (sym (only_lane 0 k run.0.items below)),
    )
