-- The answer is the first refusal, and there is none exactly if the heights are lawful.
use Rattle.std.proofs.Common.{arith, refl, sym, ◌∙◌}
use Rattle.std.proofs.lemmas.List.{drop_all}
use Rattle.p3_support.specs.Batches.{heights_of}
use Rattle.p3_merkle_core.proofs.Shapes.GateFacts.{expected_there, lawful_from_none, none_large_from_lawful}
use Rattle.p3_merkle_core.proofs.Shapes.GateFacts.{tallest_fits}
use Rattle.p3_merkle_core.proofs.gate.check_heights.Goals as goal

pub returns-in-Some-clause-lawful : goal.returns-in-Some-clause-lawful
returns-in-Some-clause-lawful c = (
  λ e. cc,
  λ w. let n = none_large_from_lawful (heights_of c.args.dimensions.now) w in let s = c.in-Some.ensures in
      cc,
)

pub height_of_exponent-expected_height-requires : goal.height_of_exponent-expected_height-requires
height_of_exponent-expected_height-requires c =
    omega (
      arith,
      c.extremes_of-max_height.ensures.greatest,
      tallest_fits (heights_of c.args.dimensions.now) (sym c.in_default.ensures),
    )

pub returns-then-height-expected_height-clause-lawful : goal.returns-then-height-expected_height-clause-lawful
returns-then-height-expected_height-clause-lawful c = (
  λ e. cc,
  λ w.
      let own = expected_there c.args.dimensions.now c.loop-matrix.matrix-index c.loop-matrix-test.true w in
      let expected = c.height_of_exponent-expected_height.ensures in
      let exponent = c.exponent_of.ensures in
      let max = c.extremes_of-max_height.ensures.greatest in
      absurd (c.if-height-expected_height.true cc),
)

pub returns-clause-lawful : goal.returns-clause-lawful
returns-clause-lawful c =
    let e = c.extremes_of-max_height.ensures.greatest in
    let all = drop_all c.loop-matrix.matrix-index c.args.dimensions.now (omega arith) in
    let o = rw (all, e) at c.loop-matrix.invariant.rest in (
      λ t. lawful_from_none (heights_of c.args.dimensions.now) (λ z. c.if-max_height-eq0.false (e ∙ z))
          (sym c.in_default.ensures) (sym o),
      λ w. refl,
    )
