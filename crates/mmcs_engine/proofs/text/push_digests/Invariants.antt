use Rattle.std.proofs.Common.{◌≡◌, ◌++◌, map, take, string_bytes}
use Rattle.mmcs_engine.specs.Text.{hex_lines}
use Rattle.mmcs_engine.proofs.text.push_digests.Given as goal

abbrev pub invariant-loop-digest : goal.invariant-loop-digest
invariant-loop-digest g l = string_bytes l.text ≡ string_bytes l.fn.text
    ++ hex_lines g.W.Word.HEX_DIGITS (map (map g.W.Word.value) (take l.digest-index l.digests))
