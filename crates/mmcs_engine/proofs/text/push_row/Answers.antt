-- The text has the first number, and a space and a number for each word so far.
use Rattle.std.proofs.Common.{◌++◌, ◌∷◌, ◌∙◌, ap, sym, append-nil, string_bytes}
use Rattle.std.specs.Prelude.{decimal}
use Rattle.mmcs_engine.proofs.TextFacts.{texts_more}
use Rattle.mmcs_engine.proofs.text.push_row.Goals as goal

pub loop-word-init : goal.loop-word-init
loop-word-init g c = sym (append-nil _)

pub loop-word-preserved : goal.loop-word-preserved
loop-word-preserved g c =
    let before = string_bytes c.loop-word.text in
    texts_more (λ w. 32 ∷ decimal w) g.W.Word.value _ c.loop-word.word-index c.word-item.result _ before _
    c.loop-word-test.true c.word-item.is c.loop-word.invariant
    (c.in_ok-write-2.ensures.bytes ∙ ap (λ n. before ++ 32 ∷ decimal n) c.to_number-number.ensures)
