use Rattle.std.proofs.Common.{◌≡◌, ◌++◌, ◌∷◌, map, take, string_bytes}
use Rattle.std.specs.Prelude.{decimal, flat_map}
use Rattle.mmcs_engine.proofs.text.push_row.Given as goal

abbrev pub invariant-loop-word : goal.invariant-loop-word
invariant-loop-word g l = string_bytes l.text
    ≡ string_bytes l.initial.text ++ flat_map (λ w. 32 ∷ decimal w) (map g.W.Word.value (take l.word-index l.rest))
