-- Both checks stand at the level, and the last difference of the places below it is known.
use Rattle.std.proofs.Common.{◌≡◌, ◌∙◌, add-one, ap, arith, zip}
use Rattle.p3_support.specs.Batches.{heights_of}
use Rattle.p3_merkle_core.specs.Checks.{words_of_exponent}
use Rattle.p3_merkle_core.specs.Extraction.{input_eq}
use Rattle.p3_merkle_verifier.specs.Inner.Checks.{functions_of, opening_in, shape_in}
use Rattle.p3_merkle_verifier.proofs.SharedFacts.{difference_shared}
use Rattle.p3_merkle_verifier.proofs.WalkFacts.{found_next, none_at_leaf, none_on_level, same_on_level}
use Rattle.p3_merkle_verifier.proofs.extraction.Checker+P+PW+H+C+array+N+array+D+PW+Value+N+D.last_difference.Goals as goal

pub loop-level-preserved : goal.loop-level-preserved
loop-level-preserved g c =
    let f = functions_of c.args.self.now in
    let s = shape_in c.args.self.now in
    let l = c.loop-level.level in
    let o = opening_in c.args.first in
    let u = opening_in c.args.second in
    let heights = heights_of c.args.self.now.schedule.dimensions.now in
    let mine = c.compute_level-mine.ensures in
    let theirs = c.compute_level-theirs.ensures in
    record {
      first_state = rw add-one mine.state;
      second_state = rw add-one theirs.state;
      found = found_next (input_eq g.P.Value.PartialEq.eq g.PW.Value.PartialEq.eq) f s l o u c.in_ok-found.found
          c.loop-level.last c.loop-level.invariant.found
          (c.in_ok-found.ensures.found f s l o u mine theirs
          (ap (λ x. words_of_exponent x (zip heights o.rows)) mine.state.at_exponent)
          (ap (λ x. words_of_exponent x (zip heights u.rows)) mine.state.at_exponent)) c.or-last.ensures;
    }

pub returns-clause-found : goal.returns-clause-found
returns-clause-found g c =
    let f = functions_of c.args.self.now in
    let test = input_eq g.P.Value.PartialEq.eq g.PW.Value.PartialEq.eq in
    let here : c.loop-level.level ≡ c.args.self.now.cap_layer = omega arith in
    rw (
      ← difference_shared test f (shape_in c.args.self.now) (opening_in c.args.first)
          (opening_in c.args.second) c.args.self.now.cap_layer,
      ← here,
    ) c.loop-level.invariant.found

pub returns-in_err-last-clause-agreed : goal.returns-in_err-last-clause-agreed
returns-in_err-last-clause-agreed g c =
    let f = functions_of c.args.self.now in
    let test = input_eq g.P.Value.PartialEq.eq g.PW.Value.PartialEq.eq in
    let s = shape_in c.args.self.now in
    let o = opening_in c.args.first in
    let u = opening_in c.args.second in
    let t = c.args.self.now.cap_layer in
    λ none.
    let ok = c.in_err-last.ensures.agreed
    (none_at_leaf test f s o u t (difference_shared test f s o u t ∙ none)) in
    absurd cc

pub returns-in_err-found-clause-agreed : goal.returns-in_err-found-clause-agreed
returns-in_err-found-clause-agreed g c =
    let f = functions_of c.args.self.now in
    let test = input_eq g.P.Value.PartialEq.eq g.PW.Value.PartialEq.eq in
    let s = shape_in c.args.self.now in
    let l = c.loop-level.level in
    let o = opening_in c.args.first in
    let u = opening_in c.args.second in
    let t = c.args.self.now.cap_layer in
    let heights = heights_of c.args.self.now.schedule.dimensions.now in
    let mine = c.compute_level-mine.ensures in
    let theirs = c.compute_level-theirs.ensures in
    λ none.
    let ok = c.in_err-found.ensures.agreed (λ one. same_on_level test mine theirs
    (ap (λ x. words_of_exponent x (zip heights o.rows)) mine.state.at_exponent)
    (ap (λ x. words_of_exponent x (zip heights u.rows)) mine.state.at_exponent) one
    (none_on_level test f s o u t (difference_shared test f s o u t ∙ none) l c.loop-level-test.true)) in
    absurd cc
