-- Each row set that is accepted has rows as wide as the dimensions say.
use Rattle.std.proofs.Common.{arith, refl, rules, ◌<◌, length}
use Rattle.p3_support.proofs.VerifiedRows.{as_many, has_column, has_set, set_shown}
use Rattle.test_library.proofs.any_scheme.verified_word_of.Goals as goal

pub offset_bounds-rows-query : goal.offset_bounds-rows-query
offset_bounds-rows-query g c =
    let each = g.met.S.Mmcs.shown_by_all _ _ _ _ _ _ (c.in_ok-verify_multi_batch.ensures.accepted refl) in
    let inside : c.args.query < length c.args.rows.now = has_set _ c.args.indices.now c.args.rows.now each c.args.query
    c.requires.query in search rules

pub bounds-rows-query : goal.bounds-rows-query
bounds-rows-query g c =
    let each = g.met.S.Mmcs.shown_by_all _ _ _ _ _ _ (c.in_ok-verify_multi_batch.ensures.accepted refl) in
    has_set _ c.args.indices.now c.args.rows.now each c.args.query c.requires.query

pub index-requires : goal.index-requires
index-requires g c =
    let each = g.met.S.Mmcs.shown_by_all _ _ _ _ _ _ (c.in_ok-verify_multi_batch.ensures.accepted refl) in
    let set = c.index-rows-query.result in
    let fit = g.met.S.Mmcs.shown_fits _ _ _ _ _
    (set_shown _ c.args.indices.now c.args.rows.now each c.args.query set c.requires.query c.index-rows-query.is) in
    omega (arith, as_many c.args.dimensions.now set.items fit.rows_fit)

pub index-requires-2 : goal.index-requires-2
index-requires-2 g c =
    let each = g.met.S.Mmcs.shown_by_all _ _ _ _ _ _ (c.in_ok-verify_multi_batch.ensures.accepted refl) in
    let set = c.index-rows-query.result in
    let fit = g.met.S.Mmcs.shown_fits _ _ _ _ _
    (set_shown _ c.args.indices.now c.args.rows.now each c.args.query set c.requires.query c.index-rows-query.is) in
    has_column c.args.dimensions.now set.items fit.rows_fit c.args.matrix c.args.column c.index.result.now
    c.requires.matrix c.requires.column c.index.ensures

pub returns-clause-index : goal.returns-clause-index
returns-clause-index g c =
    let each = g.met.S.Mmcs.shown_by_all _ _ _ _ _ _ (c.in_ok-verify_multi_batch.ensures.accepted refl) in
    let set = c.index-rows-query.result in
    (g.met.S.Mmcs.shown_fits _ _ _ _ _
    (set_shown _ c.args.indices.now c.args.rows.now each c.args.query set c.requires.query
    c.index-rows-query.is)).in_range
