-- Each turn reads one line.
use Rattle.std.proofs.Common.{◌≡◌, ◌+◌, ◌-◌, ◌==◌, ◌≤◌, drop, length, map, take}
use Rattle.std.specs.Prelude.{IfNone, IfSome}
use Rattle.std.specs.List.{slice_split}
use Rattle.mmcs_engine.specs.Input.{pieces_of}
use Rattle.mmcs_engine.proofs.InputFacts.{LinesSoFar}
use Rattle.mmcs_engine.proofs.MatrixFacts.{Shows}
use Rattle.mmcs_engine.proofs.input.read_matrices.Given as goal

abbrev pub invariant-loop-rest : goal.invariant-loop-rest
invariant-loop-rest g l = record {
  left : IfSome l.rest (λ left. drop l.line (slice_split (λ b. b == 10) l.input) ≡ slice_split (λ b. b == 10) left.now);
  none : IfNone l.rest (length (slice_split (λ b. b == 10) l.input) ≤ l.line);
  lines : LinesSoFar (Shows g.W.Word.value) (g.W.Word.MAX + 1) (take l.line (pieces_of l.input)) l.matrices.items
      (map g.W.Word.value l.block.values.items) l.block.width;
}

abbrev pub decreases-loop-rest : goal.decreases-loop-rest
decreases-loop-rest g l = length (slice_split (λ b. b == 10) l.input) - l.line
