-- A node is alone in its lane.
use Rattle.std.proofs.Common.{◌∙◌, ap, sym}
use Rattle.p3_support.proofs.LaneReads.{only_lane}
use Rattle.tlog_multiproof.specs.Nodes.{last_word}
use Rattle.tlog_multiproof.specs.declared.tree.Node.TheVariants.{Absent}
use Rattle.tlog_multiproof.proofs.tree.LeafHashesCryptographicHasherNodeNode1.hash_packed.Goals as goal

pub returns : goal.returns
returns g c =
    let run = c.hash_iter.ensures in (
      run.0,
      run.1,
      run.2,
      λ k below same. only_lane Absent k c.hash_iter.result below ∙ run.3
          ∙ ap last_word (sym (only_lane Absent k run.0.items below)),
    )
