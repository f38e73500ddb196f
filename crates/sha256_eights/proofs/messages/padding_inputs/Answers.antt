-- The block after the last byte is padding alone.
use Rattle.std.proofs.Common.{◌≡◌, ◌+◌, ◌*◌, ◌/◌, ◌∙◌, ap, arith, drop, sym, take, ℕ}
use Rattle.sha2.specs.Sha256.{padded_message, word_at}
use Rattle.sha256_eights.proofs.Padding.{word_of_block}
use Rattle.sha256_eights.proofs.messages.padding_inputs.Goals as goal

pub returns-then-last-block_count : goal.returns-then-last-block_count
returns-then-last-block_count c = λ alone. absurd (omega (arith, alone, c.if-last-block_count.true))

pub returns : goal.returns
returns c = λ alone m long j below.
    let p = padded_message m in
    let t = (c.args.width + 63) / 64 in
    let last : c.filled_count-last.result ≡ t = c.filled_count-last.ensures in
    c.round_inputs.ensures j below (take 64 (drop (t * 64) p)) (λ i inside.
    c.padding_block.ensures m long j i below inside
    ∙ sym (word_of_block p c.filled_count-last.result i inside)
    ∙ ap (λ (n : ℕ). word_at (take 64 (drop (n * 64) p)) (4 * i)) last)
