use Rattle.std.proofs.Common.{◌≡◌, ℕ, ◌+◌, ◌<◌, take}
use Rattle.p3_hashes.specs.Fold.{fold_hash}
use Rattle.p3_hashes.specs.Inner.Eights.{lanes_of}
use Rattle.p3_support.specs.Lists.{lane_of, message}
use Rattle.p3_hashes.proofs.eights.absorb_columns.Given as goal

abbrev pub invariant-loop-column : goal.invariant-loop-column
invariant-loop-column g l = (k : ℕ) → k < 8 → lane_of lanes_of 0 k l.state
    ≡ fold_hash g.row.D (take l.column (message l.width l.messages (l.first + k)))
