use Rattle.p3_merkle_verifier.specs.Inner.Checks.{functions_of}
use Rattle.p3_merkle_verifier.specs.Inner.RestoredLevels.{opened_by, tree_of, IsLayer}
use Rattle.p3_merkle_verifier.proofs.pruned_check.Checker+P+PW+H+C+array+N+array+D+PW+Value+N+D.top_layer.Given as goal

-- the layer that is reached
abbrev pub invariant-loop-level : goal.invariant-loop-level
invariant-loop-level g l =
    IsLayer (functions_of l.self) (tree_of l.restorable) l.restorable.cap_layer (opened_by l.restorable) l.level l.layer
