use Rattle.std.proofs.Common.{◌≡◌, ◌-◌}
use Rattle.tlog_text.specs.Lines.{digest_of}
use Rattle.tlog_text.specs.Reading.{at_blank, digests_to_blank, line_by, many}
use Rattle.tlog_text.specs.declared.error.Expected.TheVariants.{DigestOrBlank}
use Rattle.tlog_text.proofs.ReadFacts.{onto}
use Rattle.tlog_text.proofs.line.read_digests_to_blank.Given as goal

abbrev pub invariant-loop-digest : goal.invariant-loop-digest
invariant-loop-digest l =
    digests_to_blank l.limit l.left
    ≡ onto l.digests.items (many at_blank (line_by DigestOrBlank digest_of) (l.limit - l._digest) l.rest)
