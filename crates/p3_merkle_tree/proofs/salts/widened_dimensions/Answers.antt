-- Each turn adds the dimensions of one more matrix.
use Rattle.std.proofs.Common.{◌+◌}
use Rattle.p3_support.specs.declared.matrix.Dimensions.{Dimensions}
use Rattle.p3_merkle_tree.proofs.LoopFacts.{made_all, made_next}
use Rattle.p3_merkle_tree.proofs.salts.widened_dimensions.Goals as goal

pub loop-matrix-preserved : goal.loop-matrix-preserved
loop-matrix-preserved c =
    made_next (λ (d : Dimensions). record { width = d.width + c.args.salt_elems; height = d.height })
    c.args.dimensions.now c.loop-matrix.matrix-index _ c.loop-matrix.wider.items c.push.new.self.items
    c.loop-matrix-test.true c.in_ok-push.ensures.items c.loop-matrix.invariant

pub returns : goal.returns
returns c = made_all
    (λ (d : Dimensions). record { width = d.width + c.args.salt_elems; height = d.height })
    c.args.dimensions.now c.loop-matrix.matrix-index c.loop-matrix.wider.items c.loop-matrix-test.false
    c.loop-matrix.invariant
