use Rattle.p3_merkle_verifier.specs.Inner.Checks.{functions_of}
use Rattle.p3_merkle_verifier.specs.Inner.RestoredLevels.{opened_by, tree_of, AreLayers}
use Rattle.p3_merkle_verifier.proofs.pruned_check.Checker+P+PW+H+C+array+N+array+D+PW+Value+N+D.restored_layers.Given as goal

-- the layers so far
abbrev pub invariant-loop-level : goal.invariant-loop-level
invariant-loop-level g l =
    let f = functions_of l.self in
    AreLayers f (tree_of l.restorable) l.restorable.cap_layer (opened_by l.restorable) l.level l.layers.items
