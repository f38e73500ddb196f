use Rattle.std.proofs.Common.{◌≡◌, ◌-◌}
use Rattle.tlog_text.specs.Lines.{digest_of}
use Rattle.tlog_text.specs.Reading.{digests_by, line_by, many, never}
use Rattle.tlog_text.specs.declared.error.Expected.TheVariants.{Digest}
use Rattle.tlog_text.proofs.ReadFacts.{onto}
use Rattle.tlog_text.proofs.line.read_digests.Given as goal

abbrev pub invariant-loop-digest : goal.invariant-loop-digest
invariant-loop-digest l =
    digests_by l.count l.left
    ≡ onto l.digests.items (many never (line_by Digest digest_of) (l.count - l._digest) l.rest)
