use Rattle.std.proofs.Common.{rules, ◌==◌, not, ap, ◌∙◌, sym}
use Rattle.std.proofs.lemmas.Iterator.{YieldsList-from_slice}
use Rattle.std.proofs.lemmas.Iterator.Search.{all_from_yields_List}
use Rattle.tlog_text.specs.InPlace.{entry_text_fields}
use Rattle.fohlazu_commands.specs.Outcomes.{is_printable}
use Rattle.fohlazu_commands.proofs.verify.is_printable.Goals as goal

pub returns-in-Lines : goal.returns-in-Lines
returns-in-Lines c =
    let bytes = c.args.entry.now.bytes.now in
    let told = all_from_yields_List (λ b. not (b == 10)) _ _ c.all.result c.all.ensures.ran
    (YieldsList-from_slice bytes c.iter.ensures.rest) (λ x b q called. search rules) in
    told ∙ ap (λ print. is_printable print c.args.size (entry_text_fields c.args.entry.now)) (sym c.in-Lines.is)
