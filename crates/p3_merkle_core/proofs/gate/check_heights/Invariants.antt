use Rattle.std.proofs.Common.{◌≡◌, drop}
use Rattle.p3_merkle_core.specs.Gate.{first_off_ladder}
use Rattle.p3_merkle_core.specs.Geometry.{expected_height}
use Rattle.p3_support.specs.Batches.{heights_of}
use Rattle.p3_merkle_core.proofs.gate.check_heights.Given as goal

-- the heights so far are the expected ones, so the rest decides; and the one that is not looked at again is expected
abbrev pub invariant-loop-matrix : goal.invariant-loop-matrix
invariant-loop-matrix l = record {
  rest : first_off_ladder l.max_height (heights_of (drop l.matrix-index l.dimensions))
      ≡ first_off_ladder l.max_height (heights_of l.dimensions);
  lawful : l.lawful_height ≡ expected_height l.max_height l.lawful_height;
}
