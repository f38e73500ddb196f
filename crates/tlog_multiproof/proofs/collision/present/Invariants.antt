use Rattle.std.proofs.Common.{◌≡◌, take}
use Rattle.tlog_multiproof.specs.Instance.{present}
use Rattle.tlog_multiproof.proofs.collision.present.Given as goal

-- the hashes so far
abbrev pub invariant-loop-digest : goal.invariant-loop-digest
invariant-loop-digest l = l.hashes.items ≡ present (take l.digest-index l.digests)
