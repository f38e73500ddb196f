-- Rows that are accepted are as wide as the dimensions say.
use Rattle.std.proofs.Common.{◌<◌, refl, subst}
use Rattle.std.specs.Vec.{vec_len}
use Rattle.p3_support.proofs.VerifiedRows.{has_column}
use Rattle.test_library.proofs.any_scheme.verified_word.Goals as goal

pub index-requires : goal.index-requires
index-requires g c =
    let shown = g.met.S.Mmcs.shown_by_one _ _ _ _ _ _ (c.in_ok-verify_batch.ensures.accepted refl) in
    let fit = g.met.S.Mmcs.shown_fits _ _ _ _ _ shown in
    let row = c.index-opening-matrix.result in
    let is = c.index-opening-matrix.is in
    subst (λ r. c.args.column < vec_len r) is
    (has_column c.args.dimensions.now c.args.opening.opened_values.now fit.rows_fit c.args.matrix
    c.args.column row c.requires.matrix c.requires.column is)
