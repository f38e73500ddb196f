use Rattle.std.proofs.Common.{◌+◌, map}
use Rattle.mmcs_engine.proofs.RowFacts.{RowSoFar}
use Rattle.mmcs_engine.proofs.input.append_row.Given as goal

abbrev pub invariant-loop-byte : goal.invariant-loop-byte
invariant-loop-byte g l = RowSoFar (g.W.Word.MAX + 1) l.line l.byte-index (map g.W.Word.value l.fn.values.items)
    (map g.W.Word.value l.values.items) l.number
