use Rattle.std.proofs.Common.{◌≡◌, take, map, string_bytes}
use Rattle.std.specs.Prelude.{flat_map}
use Rattle.p3_support.specs.Shown.{row_sets}
use Rattle.p3_merkle_core.specs.Nodes.{Batch}
use Rattle.p3_merkle_core.specs.Openings.{honest_rows}
use Rattle.mmcs_engine.specs.Inner.Alike.{opened_lines}
use Rattle.mmcs_engine.proofs.engine.text_of_opening.Given as goal

abbrev pub invariant-loop-query : goal.invariant-loop-query
invariant-loop-query g l =
    (b : Batch g.row.W.Denot) → row_sets l.opened ≡ map (honest_rows b) l.indices →
    string_bytes l.text ≡ flat_map (opened_lines g.W.Word.value b) (take l.query l.indices)
