use Rattle.std.proofs.Common.{ap, ◌∙◌, arith}
use Rattle.sha2.specs.Sha256.{rounds, schedule}
use Rattle.sha256_eights.proofs.block.four_block_rounds.Goals as goal

pub returns : goal.returns
returns c = λ j below b h window held.
    let after = rounds h (schedule b 48) in
    let one = c.block_round-v.ensures j below b h window held in
    let two = c.block_round-v-2.ensures j below b h window one in
    let three = c.block_round-v-3.ensures j below b h window (two ∙ ap after (omega arith)) in
    c.block_round.ensures j below b h window (three ∙ ap after (omega arith)) ∙ ap after (omega arith)
