-- Each turn is eight rounds, so that the loop runs all 64.
use Rattle.std.proofs.Common.{◌≡◌, ◌*◌, ◌∙◌, ap, refl, arith}
use Rattle.sha2.specs.Sha256.{add_state, compress, rounds, schedule}
use Rattle.sha256_eights.specs.Inner.Lanes.{lane}
use Rattle.sha256_eights.proofs.block.compress_prepared.Goals as goal

pub loop-eight-init : goal.loop-eight-init
unfolding rounds
loop-eight-init c = λ j below b are. refl

pub loop-eight-preserved : goal.loop-eight-preserved
loop-eight-preserved c = λ j below b are.
    let h = lane j c.args.state.now in
    let after = rounds h (schedule b 48) in
    let four = c.four_prepared_rounds-v.ensures j below b h are (c.loop-eight.invariant j below b are) in
    c.four_prepared_rounds-v-in-loop-eight.ensures j below b h are four ∙ ap after (omega arith)

pub returns : goal.returns
unfolding compress
returns c = λ j below b are.
    let h = lane j c.args.state.now in
    let done : 8 * c.loop-eight.eight ≡ 64 = omega (arith, c.loop-eight.auto.eight-end) in
    c.add_to.ensures j below
    ∙ ap (add_state h) (c.loop-eight.invariant j below b are ∙ ap (rounds h (schedule b 48)) done)
