-- The text has what it had, and the lines of the digests so far.
use Rattle.std.proofs.Common.{◌++◌, ◌∙◌, ap, sym, map, append-nil, string_bytes}
use Rattle.std.proofs.lemmas.List.{take_all}
use Rattle.mmcs_engine.specs.Text.{hex_line, hex_lines}
use Rattle.mmcs_engine.proofs.TextFacts.{texts_more}
use Rattle.mmcs_engine.proofs.text.push_digests.Goals as goal

pub loop-digest-init : goal.loop-digest-init
loop-digest-init g c = sym (append-nil (string_bytes c.args.text.now))

pub loop-digest-preserved : goal.loop-digest-preserved
loop-digest-preserved g c =
    texts_more (hex_line g.W.Word.HEX_DIGITS) (map g.W.Word.value) c.args.digests.now c.loop-digest.digest-index
    c.digest-item.result (string_bytes c.args.text.now) (string_bytes c.loop-digest.text) _ c.loop-digest-test.true
    c.digest-item.is c.loop-digest.invariant c.in_ok-push_hex_line.ensures

pub returns : goal.returns
returns g c = c.loop-digest.invariant
    ∙ ap (λ ds. string_bytes c.args.text.now ++ hex_lines g.W.Word.HEX_DIGITS (map (map g.W.Word.value) ds))
    (take_all c.loop-digest.digest-index c.args.digests.now c.loop-digest-test.false)
