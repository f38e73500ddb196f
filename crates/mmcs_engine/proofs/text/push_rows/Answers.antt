-- The text has what it had, and the lines of the rows so far.
use Rattle.std.proofs.Common.{◌++◌, ◌∙◌, ap, sym, map, append-nil, string_bytes}
use Rattle.std.specs.Prelude.{flat_map}
use Rattle.std.proofs.lemmas.List.{take_all}
use Rattle.mmcs_engine.specs.Text.{row_line}
use Rattle.mmcs_engine.proofs.TextFacts.{texts_more}
use Rattle.mmcs_engine.proofs.text.push_rows.Goals as goal

pub loop-row-init : goal.loop-row-init
loop-row-init g c = sym (append-nil (string_bytes c.args.text.now))

pub loop-row-preserved : goal.loop-row-preserved
loop-row-preserved g c =
    let before = string_bytes c.loop-row.text in
    texts_more row_line (λ row. map g.W.Word.value row.items) c.args.rows.now c.loop-row.row-index c.row-item.result
    (string_bytes c.args.text.now) before _ c.loop-row-test.true c.row-item.is c.loop-row.invariant
    (c.in_ok-push_row.ensures ∙ ap (λ r. before ++ row_line (map g.W.Word.value r)) c.deref.ensures.value)

pub returns : goal.returns
returns g c = c.loop-row.invariant ∙ ap (λ rows. string_bytes c.args.text.now
    ++ flat_map row_line (map (λ row. map g.W.Word.value row.items) rows))
    (take_all c.loop-row.row-index c.args.rows.now c.loop-row-test.false)
