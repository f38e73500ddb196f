use Rattle.std.proofs.Common.{ap, ◌∙◌, arith}
use Rattle.sha2.specs.Sha256.{rounds, schedule}
use Rattle.sha256_eights.proofs.block.four_prepared_rounds.Goals as goal

pub returns : goal.returns
returns c = λ j below b h are held.
    let after = rounds h (schedule b 48) in
    let one = c.prepared_round-v.ensures j below b h are held in
    let two = c.prepared_round-v-2.ensures j below b h are one in
    let three = c.prepared_round-v-3.ensures j below b h are (two ∙ ap after (omega arith)) in
    c.prepared_round.ensures j below b h are (three ∙ ap after (omega arith)) ∙ ap after (omega arith)
