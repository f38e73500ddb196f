-- The words of the leaf are compared.
use Rattle.std.proofs.Common.{ap, zip}
use Rattle.std.proofs.lemmas.Result.{IfOk-weaker}
use Rattle.p3_support.specs.Batches.{heights_of}
use Rattle.p3_merkle_core.specs.Checks.{words_of_exponent}
use Rattle.p3_merkle_core.specs.Geometry.{shape_of}
use Rattle.p3_merkle_verifier.specs.Inner.Checks.{opening_in}
use Rattle.p3_merkle_verifier.proofs.WalkFacts.{found_leaf, same_at_leaf}
use Rattle.p3_merkle_verifier.proofs.extraction.leaf_difference.Goals as goal

pub returns-clause-found : goal.returns-clause-found
returns-clause-found g c =
    let schedule = c.args.schedule.now in
    let o = opening_in c.args.first in
    let u = opening_in c.args.second in
    let heights = heights_of schedule.dimensions.now in
    let mine = ap (λ x. words_of_exponent x (zip heights o.rows)) schedule.walked.leaves in
    let theirs = ap (λ x. words_of_exponent x (zip heights u.rows)) schedule.walked.leaves in
    IfOk-weaker c.differing_words.result _ _
    (λ found is. found_leaf g.T.PartialEq.eq g.W.PartialEq.eq
    (shape_of schedule.arity schedule.dimensions.now) o u found
    c.if-first-second.false mine theirs is) c.differing_words.ensures.found

pub returns-clause-agreed : goal.returns-clause-agreed
returns-clause-agreed g c =
    let schedule = c.args.schedule.now in
    let o = opening_in c.args.first in
    let u = opening_in c.args.second in
    let heights = heights_of schedule.dimensions.now in
    let mine = ap (λ x. words_of_exponent x (zip heights o.rows)) schedule.walked.leaves in
    let theirs = ap (λ x. words_of_exponent x (zip heights u.rows)) schedule.walked.leaves in
    λ none. c.differing_words.ensures.agreed (same_at_leaf g.T.PartialEq.eq g.W.PartialEq.eq
    (shape_of schedule.arity schedule.dimensions.now) o u c.if-first-second.false mine theirs none)
