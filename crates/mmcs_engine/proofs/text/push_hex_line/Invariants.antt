use Rattle.std.proofs.Common.{◌≡◌, ◌++◌, map, take, string_bytes}
use Rattle.std.specs.Prelude.{flat_map}
use Rattle.mmcs_engine.specs.Text.{hex_word}
use Rattle.mmcs_engine.proofs.text.push_hex_line.Given as goal

abbrev pub invariant-loop-word : goal.invariant-loop-word
invariant-loop-word g l = string_bytes l.text ≡ string_bytes l.fn.text
    ++ flat_map (hex_word g.W.Word.HEX_DIGITS) (map g.W.Word.value (take l.word-index l.words))
