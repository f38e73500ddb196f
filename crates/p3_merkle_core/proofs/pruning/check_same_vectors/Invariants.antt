use Rattle.std.proofs.Common.{◌≡◌, drop}
use Rattle.p3_support.specs.Shown.{row_lists}
use Rattle.p3_merkle_core.specs.Inner.Agreement.{row_fault}
use Rattle.p3_answers.specs.Answers.{first_of}
use Rattle.p3_merkle_core.proofs.pruning.check_same_vectors.Given as goal

-- the rows so far are those of the first slot, so the rest decides
abbrev pub invariant-loop-matrix : goal.invariant-loop-matrix
invariant-loop-matrix g l =
    let fault = row_fault g.T.PartialEq.eq l.slot (row_lists l.rows) (row_lists l.first_rows) in
    first_of fault (drop l.matrix-index l.matrices) ≡ first_of fault l.matrices
