use Rattle.std.proofs.Common.{map}
use Rattle.p3_merkle_prover.specs.Inner.Slots.{batch_for, functions_for}
use Rattle.p3_merkle_prover.proofs.BuildFacts.{IsBuilt}
use Rattle.p3_merkle_prover.proofs.layers.MerkleTreeBuilder+P+PW+H+C+M+N+D.layers.Given as goal

-- the layers so far
abbrev pub invariant-loop-below : goal.invariant-loop-below
invariant-loop-below g l =
    IsBuilt (functions_for l.self) (batch_for l.self) l.below l.exponent l.len
    (map (λ nodes. nodes.items) l.layers.items)
