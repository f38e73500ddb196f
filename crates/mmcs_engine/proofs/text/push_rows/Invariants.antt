use Rattle.std.proofs.Common.{◌≡◌, ◌++◌, take, map, string_bytes}
use Rattle.std.specs.Prelude.{flat_map}
use Rattle.mmcs_engine.specs.Text.{row_line}
use Rattle.mmcs_engine.proofs.text.push_rows.Given as goal

abbrev pub invariant-loop-row : goal.invariant-loop-row
invariant-loop-row g l = string_bytes l.text ≡ string_bytes l.fn.text
    ++ flat_map row_line (map (λ row. map g.W.Word.value row.items) (take l.row-index l.rows))
