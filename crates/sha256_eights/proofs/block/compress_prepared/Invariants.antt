use Rattle.std.proofs.Common.{◌≡◌, ℕ, ◌<◌, ◌*◌, List}
use Rattle.sha2.specs.Sha256.{rounds, schedule}
use Rattle.sha256_eights.specs.Inner.Inputs.{AreInputs}
use Rattle.sha256_eights.specs.Inner.Lanes.{lane}
use Rattle.sha256_eights.proofs.block.compress_prepared.Given as goal

abbrev pub invariant-loop-eight : goal.invariant-loop-eight
invariant-loop-eight l = (j : ℕ) → j < 8 → (b : List ℕ) → AreInputs (lane j l.inputs) b
    → lane j l.v ≡ rounds (lane j l.state) (schedule b 48) (8 * l.eight)
