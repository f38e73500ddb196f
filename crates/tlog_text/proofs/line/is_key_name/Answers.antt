-- The tests of the code are those of the definition.
use Rattle.std.proofs.Common.{sym, ap, ◌∙◌, rules, ◌&&◌}
use Rattle.std.proofs.lemmas.Iterator.{YieldsList-from_chars}
use Rattle.std.proofs.lemmas.Iterator.Search.{all_from_yields_List}
use Rattle.std.specs.List.{list_all}
use Rattle.std.specs.Str.{chars}
use Rattle.tlog_text.proofs.LineFacts.{some_tested}
use Rattle.tlog_text.specs.Lines.{is_key_name, is_name_char, is_text}
use Rattle.tlog_text.proofs.line.is_key_name.Goals as goal

pub returns : goal.returns
unfolding is_key_name
returns c =
    let name = c.args.name.now in
    let told = all_from_yields_List is_name_char _ _ c.all.result c.all.ensures.ran
    (YieldsList-from_chars name c.utf8.name c.chars.ensures.rest) (λ x b q called. search rules) in
    let some = some_tested name (sym c.is_empty.ensures ∙ c.if-is_empty.false) in
    let text = ap is_text (sym c.as_bytes.ensures.value) ∙ sym c.is_text.ensures ∙ c.if-not-is_text.false in
    told ∙ (λ i. sym some i && (sym text i && list_all is_name_char (chars name)))
