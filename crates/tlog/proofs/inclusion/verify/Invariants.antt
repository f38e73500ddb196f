use Rattle.std.proofs.Common.{◌≡◌, drop}
use Rattle.tlog.specs.Rfc9162.{inclusion_end, inclusion_walk}
use Rattle.tlog.proofs.inclusion.verify.Given as goal

-- the digests that are left lead from here to the end
abbrev pub invariant-loop-digest : goal.invariant-loop-digest
invariant-loop-digest g l =
    inclusion_walk g.H.LogHash.hash (drop l.digest-index l.proof) l.node l.last l.value
    ≡ inclusion_end g.H.LogHash.hash l.index l.size l.leaf l.proof
