use Rattle.std.proofs.Common.{◌≡◌, ℕ, ◌*◌, ◌<◌}
use Rattle.sha2.specs.Sha256.{hash_after, initial_hash_256}
use Rattle.sha256_eights.specs.Messages.{message}
use Rattle.sha256_eights.specs.Inner.Lanes.{lane}
use Rattle.sha256_eights.proofs.padded.whole_states.Given as goal

abbrev pub invariant-loop-t : goal.invariant-loop-t
invariant-loop-t l = (j : ℕ) → j < 8 → lane j l.state ≡ hash_after initial_hash_256
    (message (64 * l.count) l.messages j) l.t
