-- Both checks stand at the level, and agree on all places below it that they share (`agree`).
use Rattle.std.proofs.Common.{◌∙◌, add-one, ap, sym, zip}
use Rattle.p3_support.specs.Batches.{heights_of}
use Rattle.p3_merkle_core.specs.Checks.{words_of_exponent}
use Rattle.p3_merkle_verifier.specs.Inner.Checks.{functions_of, opening_in, shape_in}
use Rattle.p3_merkle_verifier.proofs.AgreeFacts.{agree_more, agree_start, rows_same}
use Rattle.p3_merkle_verifier.proofs.extraction.Checker+P+PW+H+C+array+N+array+D+PW+Value+N+D.agree.Goals as goal
use Rattle.p3_merkle_verifier.proofs.extraction.Checker+P+PW+H+C+array+N+array+D+PW+Value+N+D.agree.Goals.{else-first-second-via-then-first-second+else-not-agree}
use Rattle.p3_merkle_verifier.proofs.extraction.Checker+P+PW+H+C+array+N+array+D+PW+Value+N+D.agree.Goals.{else-first-second-via-else-first-second}

pub loop-level-init : goal.loop-level-init
loop-level-init g c =
    let schedule = c.args.self.now.schedule in
    let s = shape_in c.args.self.now in
    let o = opening_in c.args.first in
    let u = opening_in c.args.second in
    let heights = heights_of schedule.dimensions.now in
    let leaves = schedule.walked.leaves in
    record {
      first_state = c.start-first_state.ensures;
      second_state = c.start-second_state.ensures;
      agree = agree_start (functions_of c.args.self.now) s o u (λ one. elim c.else-first-second.branch [
        | else-first-second-via-then-first-second+else-not-agree w ↦
            ap (λ x. words_of_exponent x (zip heights o.rows)) (sym leaves)
            ∙ rows_same g.P.Value.PartialEq.eq g.met.P.PackedValue.eq_is_equality
            (record {
              dimensions = schedule.dimensions;
              exponent = schedule.exponent;
              first = c.args.first.rows;
              second = c.args.second.rows;
            }) (sym w.agree.ensures ∙ w.if-not-agree.false)
            ∙ ap (λ x. words_of_exponent x (zip heights u.rows)) leaves
        | else-first-second-via-else-first-second w ↦ absurd (w.if-first-second.false one)
      ]);
    }

pub loop-level-preserved : goal.loop-level-preserved
loop-level-preserved g c =
    let f = functions_of c.args.self.now in
    let s = shape_in c.args.self.now in
    let l = c.loop-level.level in
    let o = opening_in c.args.first in
    let u = opening_in c.args.second in
    let heights = heights_of c.args.self.now.schedule.dimensions.now in
    let mine = c.compute_level-mine.ensures in
    let theirs = c.compute_level-theirs.ensures in
    record {
      first_state = rw add-one mine.state;
      second_state = rw add-one theirs.state;
      agree = agree_more f s o u l c.loop-level.invariant.agree
          (c.levels_agree.ensures g.met.P.PackedValue.eq_is_equality g.met.PW.PackedValue.eq_is_equality
          c.if-not-levels_agree.false f s l o u mine theirs
          (ap (λ x. words_of_exponent x (zip heights o.rows)) mine.state.at_exponent)
          (ap (λ x. words_of_exponent x (zip heights u.rows)) mine.state.at_exponent));
    }
