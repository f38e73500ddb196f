use Rattle.std.proofs.Common.{◌≡◌, ◌++◌, take, flat_map}
use Rattle.tlog_text.specs.Texts.{digest_line}
use Rattle.tlog_text.proofs.line.push_digests.Given as goal

abbrev pub invariant-loop-digest : goal.invariant-loop-digest
invariant-loop-digest l = l.text.items ≡ l.fn.text.items ++ flat_map digest_line (take l.digest-index l.digests)
