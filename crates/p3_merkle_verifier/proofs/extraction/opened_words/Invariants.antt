use Rattle.std.proofs.Common.{◌≡◌}
use Rattle.std.specs.List.{flat_map}
use Rattle.p3_merkle_verifier.proofs.extraction.opened_words.Given as goal

-- the words of the parts so far
abbrev pub invariant-loop-part : goal.invariant-loop-part
invariant-loop-part g l = l.words.items ≡ flat_map (λ part. part.now) l.yielded
