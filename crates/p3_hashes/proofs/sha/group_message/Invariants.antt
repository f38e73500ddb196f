use Rattle.std.proofs.Common.{◌≡◌, take}
use Rattle.std.specs.List.{concat}
use Rattle.p3_hashes.proofs.sha.group_message.Given as goal

abbrev pub invariant-loop-digest : goal.invariant-loop-digest
invariant-loop-digest l = l.message.items ≡ concat (take l.digest-index l.digests)
