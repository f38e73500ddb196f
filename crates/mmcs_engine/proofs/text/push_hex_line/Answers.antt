-- The text has what it had, and the digits of the words so far.
use Rattle.std.proofs.Common.{◌∙◌, ◌++◌, ◌∷◌, [], ap, append_assoc, arith, map, string_bytes}
use Rattle.std.proofs.lemmas.Str.{encode_ascii}
use Rattle.std.specs.Prelude.{flat_map}
use Rattle.std.proofs.lemmas.List.{take_all}
use Rattle.mmcs_engine.specs.Text.{hex_word}
use Rattle.mmcs_engine.proofs.TextFacts.{texts_more}
use Rattle.mmcs_engine.proofs.text.push_hex_line.Goals as goal

pub loop-word-preserved : goal.loop-word-preserved
loop-word-preserved g c =
    let before = string_bytes c.loop-word.text in
    texts_more (hex_word g.W.Word.HEX_DIGITS) g.W.Word.value c.args.words.now c.loop-word.word-index c.word-item.result
    (string_bytes c.args.text.now) before _ c.loop-word-test.true c.word-item.is c.loop-word.invariant
    (c.in_ok-push_hex.ensures
    ∙ (λ i. before ++ hex_word (c.HEX_DIGITS.ensures i) (c.to_number.ensures i)))

pub returns : goal.returns
returns g c =
    let digits = hex_word g.W.Word.HEX_DIGITS in
    let value = g.W.Word.value in
    let old = string_bytes c.args.text.now in
    c.in_ok-push.ensures.bytes ∙ ap (λ end. string_bytes c.loop-word.text ++ end) (encode_ascii 10 (omega arith))
    ∙ ap (λ text. text ++ 10 ∷ []) (c.loop-word.invariant
    ∙ ap (λ words. old ++ flat_map digits (map value words))
    (take_all c.loop-word.word-index c.args.words.now c.loop-word-test.false))
    ∙ append_assoc old (flat_map digits (map value c.args.words.now)) (10 ∷ [])
