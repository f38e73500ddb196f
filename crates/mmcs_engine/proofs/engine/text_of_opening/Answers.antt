-- The text has the lines of the indices so far, if each row set is that of its index.
use Rattle.std.proofs.Common.{◌++◌, ◌∙◌, [], ap, sym, map, length, append_assoc, refl, arith}
use Rattle.std.specs.Prelude.{codes, flat_map}
use Rattle.std.proofs.lemmas.List.{length-map, take_all}
use Rattle.mmcs_engine.specs.Text.{hex_lines, labelled}
use Rattle.mmcs_engine.specs.Inner.Alike.{opened_lines}
use Rattle.mmcs_engine.proofs.TextFacts.{queries_more, rows_opened}
use Rattle.mmcs_engine.proofs.engine.text_of_opening.Goals as goal

pub loop-query-init : goal.loop-query-init
loop-query-init g c = λ b are. c.new-text.ensures.bytes

pub loop-query-preserved : goal.loop-query-preserved
loop-query-preserved g c = λ b are.
    queries_more g.W.Word.value b _ c.args.indices.now c.loop-query.query _ [] _ _ _ _ are c.loop-query-test.true refl
    (c.loop-query.invariant b are) c.in_ok-write.ensures.bytes
    c.in_ok-push_rows.ensures
    (rows_opened g.W.Word.value c.args.opened.now c.loop-query.query c.index-opened-query.result c.deref.result.now
    (omega (arith, c.requires)) c.index-opened-query.is c.deref.ensures.value)

pub returns : goal.returns
returns g c = λ b are.
    let width = g.W.Word.HEX_DIGITS in
    let value = g.W.Word.value in
    let digests = map (map value) c.args.digests.now in
    let lines = flat_map (opened_lines value b) c.args.indices.now in
    c.in_ok-push_digests.ensures
    ∙ ap (λ text. text ++ hex_lines width digests)
    (c.in_ok-write-2.ensures.bytes
    ∙ (λ i. (c.loop-query.invariant b are ∙ ap (λ is. flat_map (opened_lines value b) is)
    (take_all c.loop-query.query c.args.indices.now c.loop-query-test.false)) i
    ++ labelled (codes "digests") (sym (length-map c.args.digests.now (map value)) i)))
    ∙ append_assoc lines (labelled (codes "digests") (length digests)) (hex_lines width digests)
