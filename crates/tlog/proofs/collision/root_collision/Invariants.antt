use Rattle.std.proofs.Common.{◌≡◌, ◌≢◌, length}
use Rattle.tlog.specs.Collisions.{entries_of}
use Rattle.tlog.specs.Rfc9162.{root_of}
use Rattle.tlog.proofs.collision.root_collision.Given as goal

-- two different lists with one root
abbrev pub invariant-loop-first : goal.invariant-loop-first
invariant-loop-first g l = record {
  roots : root_of g.H.LogHash.hash (entries_of l.part) ≡ root_of g.H.LogHash.hash (entries_of l.other_part);
  differ : entries_of l.part ≢ entries_of l.other_part;
}

abbrev pub decreases-loop-first : goal.decreases-loop-first
decreases-loop-first g l = length l.part
