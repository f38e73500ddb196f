-- Rows that are accepted are as wide as the dimensions say.
use Rattle.std.proofs.Common.{refl, subst, ◌<◌}
use Rattle.std.specs.Vec.{vec_len}
use Rattle.p3_support.proofs.VerifiedRows.{has_column}
use Rattle.callers.specs.declared.TheConstants.{DIMENSIONS}
use Rattle.callers.proofs.verified_word.Goals as goal

pub index-requires : goal.index-requires
index-requires c =
    let fit = (c.in_ok-verify_batch.ensures.accepted.0 refl).rows_fit in
    let row = c.index-opening-matrix.result in
    let is = c.index-opening-matrix.is in
    subst (λ r. c.args.column < vec_len r) is
    (has_column DIMENSIONS c.args.opening.opened_values.now fit c.args.matrix c.args.column row c.requires.matrix
    c.requires.column is)
