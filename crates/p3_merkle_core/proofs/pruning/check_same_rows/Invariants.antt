use Rattle.std.proofs.Common.{◌≡◌, drop, []}
use Rattle.std.specs.Prelude.{slice_index_or}
use Rattle.p3_support.specs.RowSets.{sets_in}
use Rattle.p3_merkle_core.specs.Inner.Agreement.{row_fault}
use Rattle.p3_answers.specs.Answers.{first_of}
use Rattle.p3_merkle_core.proofs.pruning.check_same_rows.Given as goal

-- the rows so far are those of the first slot, so the rest decides
abbrev pub invariant-loop-matrix : goal.invariant-loop-matrix
invariant-loop-matrix g l =
    let sets = sets_in l.rows in
    let fault = row_fault g.T.PartialEq.eq l.slot (slice_index_or sets l.query [])
    (slice_index_or sets l.first_query [])
    in
    first_of fault (drop l.matrix-index l.matrices) ≡ first_of fault l.matrices
