use Rattle.std.proofs.Common.{◌<◌, ℕ, [], get_or}
use Rattle.tlog.specs.Collisions.{entries_of}
use Rattle.tlog.specs.Fixed.{RootFixesLeaf}
use Rattle.tlog_multiproof.specs.Inner.Paths.{siblings_of}
use Rattle.tlog_multiproof.specs.Instance.{present}
use Rattle.tlog_multiproof.proofs.collision.path_collision.Given as goal

-- no collision is in the leaf hashes so far
abbrev pub invariant-loop-k : goal.invariant-loop-k
invariant-loop-k g l = (j : ℕ) → j < l.k → RootFixesLeaf g.H.LogHash.hash (entries_of l.entries) (get_or l.indices j 0)
    (get_or l.leaves j []) (present (get_or (siblings_of l.paths) j []))
