use Rattle.std.proofs.Common.{◌≡◌, map, take}
use Rattle.p3_merkle_prover.proofs.tree.copies_of.Given as goal

abbrev pub invariant-loop-nodes : goal.invariant-loop-nodes
invariant-loop-nodes g l = map (λ v. v.items) l.copies.items ≡ map (λ v. v.items) (take l.nodes-index l.layers)
