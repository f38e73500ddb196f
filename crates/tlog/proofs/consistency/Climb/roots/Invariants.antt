use Rattle.std.proofs.Common.{◌≡◌, drop}
use Rattle.tlog.specs.Climbs.{climb_end}
use Rattle.tlog.specs.Rfc9162.{consistency_walk}
use Rattle.tlog.proofs.consistency.Climb.roots.Given as goal

-- the digests that are left lead from here to the end
abbrev pub invariant-loop-digest : goal.invariant-loop-digest
invariant-loop-digest g l =
    consistency_walk g.H.LogHash.hash (drop l.digest-index l.digest-items) l.node l.last l.old l.new
    ≡ climb_end g.H.LogHash.hash l.self.layer l.self.node l.size l.self.value.now l.self.digests.now
