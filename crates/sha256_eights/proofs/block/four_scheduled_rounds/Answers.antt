use Rattle.std.proofs.Common.{arith}
use Rattle.sha2.proofs.Schedule256.{IsRoundsAt_at}
use Rattle.sha256_eights.proofs.block.four_scheduled_rounds.Goals as goal

pub returns : goal.returns
returns c = λ j below b h held.
    let one = c.scheduled_round-v.ensures j below b h held in
    let two = c.scheduled_round-v-2.ensures j below b h one in
    let three = c.scheduled_round-v-3.ensures j below b h (IsRoundsAt_at b h _ _ _ _ (omega arith) two) in
    let four = c.scheduled_round.ensures j below b h (IsRoundsAt_at b h _ _ _ _ (omega arith) three) in
    IsRoundsAt_at b h _ _ _ _ (omega arith) four
