-- The tests of the code are those of the definition.
use Rattle.std.proofs.Common.{rules, sym, ◌∙◌, ◌&&◌, nat_le}
use Rattle.std.proofs.lemmas.Iterator.{YieldsList-from_slice}
use Rattle.std.proofs.lemmas.Iterator.Search.{all_from_yields_List}
use Rattle.std.specs.List.{list_all}
use Rattle.tlog_text.proofs.LineFacts.{utf8_tells}
use Rattle.tlog_text.specs.Lines.{is_text}
use Rattle.tlog_text.proofs.line.is_text.Goals as goal

pub returns-then-is_ok : goal.returns-then-is_ok
unfolding is_text
returns-then-is_ok c =
    let bytes = c.args.bytes.now in
    let plain = all_from_yields_List (λ b. nat_le 32 b) _ _ c.all.result c.all.ensures.ran
    (YieldsList-from_slice bytes c.iter.ensures.rest) (λ x b q called. search rules) in
    let utf8 = sym (utf8_tells _ _ c.from_utf8.result bytes c.from_utf8.ensures.cases) ∙ sym c.is_ok.ensures.value
    ∙ c.if-is_ok.true in
    plain ∙ (λ i. sym utf8 i && list_all (λ b. nat_le 32 b) bytes)

pub returns-else-is_ok : goal.returns-else-is_ok
unfolding is_text
returns-else-is_ok c =
    let bytes = c.args.bytes.now in
    let utf8 = sym (utf8_tells _ _ c.from_utf8.result bytes c.from_utf8.ensures.cases) ∙ sym c.is_ok.ensures.value
    ∙ c.if-is_ok.false in
    c.if-is_ok.false ∙ (λ i. sym utf8 i && list_all (λ b. nat_le 32 b) bytes)
