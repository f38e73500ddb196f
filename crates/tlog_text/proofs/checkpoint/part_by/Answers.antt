-- A part is read as a note whose origin is that of parts.
use Rattle.std.proofs.Common.{length, sym, ◌∙◌, arith, if◌then◌else◌, nat_lt}
use Rattle.std.proofs.lemmas.Bool.Decides.{Decides-ltb}
use Rattle.tlog_text.specs.Reading.{after_origin, missing, part_origin_by, then_read}
use Rattle.tlog_text.specs.declared.error.Expected.TheVariants.{ShortNote}
use Rattle.tlog_text.proofs.NoteLaws.{part_next}
use Rattle.tlog_text.proofs.TestFacts.{fails}
use Rattle.tlog_text.proofs.checkpoint.part_by.Goals as goal

pub returns : goal.returns
returns c =
    let text = c.args.text.now in
    let short = fails (nat_lt 1000000 (length text)) (Decides-ltb 1000000 (length text)) (λ long. omega (arith, long))
    in
    c.after_origin.ensures
    ∙ sym ((λ i. if short i then missing ShortNote text else then_read (part_origin_by text) after_origin)
    ∙ part_next text c.in_ok-left.left.now (sym c.in_ok-left.ensures))
