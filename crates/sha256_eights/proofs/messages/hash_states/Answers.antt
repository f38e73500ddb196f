-- Each turn hashes one block of each message; a last block of padding alone is hashed after the loop.
use Rattle.std.proofs.Common.{◌≡◌, ℕ, List, ◌+◌, ◌*◌, ◌/◌, ◌<◌, ◌∙◌, sym, ap, length, take, drop, arith}
use Rattle.sha2.specs.Sha256.{compress, hash_after, initial_hash_256, padded_message}
use Rattle.sha256_eights.proofs.Padding.{length-message}
use Rattle.sha256_eights.specs.Messages.{message}
use Rattle.sha256_eights.proofs.Padding.{hash_next, length-padded_message, word_of_block}
use Rattle.sha256_eights.proofs.messages.hash_states.Goals as goal

pub loop-t-init : goal.loop-t-init
unfolding hash_after
loop-t-init c = c.initial_state-state.ensures

pub loop-t-preserved : goal.loop-t-preserved
loop-t-preserved c = λ j below.
    let p = padded_message (message c.args.width c.args.messages.now j) in
    let t = c.loop-t.t in
    let block = take 64 (drop (t * 64) p) in
    c.compress_eight.ensures j below block (λ i inside. c.load_padded_block.ensures j i below inside
    ∙ sym (word_of_block p t i inside))
    ∙ ap (λ (s : List ℕ). compress s block) (c.loop-t.invariant j below) ∙ sym (hash_next initial_hash_256 p t)

-- how many blocks the padded message has
count_of : (m : List ℕ) (width n : ℕ) → length m ≡ width → n ≡ (width + 72) / 64 → n ≡ length (padded_message m) / 64
count_of m width n long is =
    let whole : length (padded_message m) ≡ 64 * ((width + 72) / 64) = length-padded_message m
    ∙ ap (λ (k : ℕ). 64 * ((k + 72) / 64)) long in
    rw whole (omega (arith, is))

-- the blocks with bytes of the message, and one of padding alone
pub returns-then-filled_count-block_count : goal.returns-then-filled_count-block_count
returns-then-filled_count-block_count c = λ j below.
    let m = message c.args.width c.args.messages.now j in
    let p = padded_message m in
    let t = (c.args.width + 63) / 64 in
    let block = take 64 (drop (t * 64) p) in
    let long : length m ≡ c.args.width = length-message c.args.messages.now c.args.width 8 j c.requires.full below in
    let alone : t < (c.args.width + 72) / 64 = omega arith in
    let done : c.loop-t.t ≡ t = omega (arith, c.loop-t.auto.t-end) in
    let all : t + 1 ≡ (c.args.width + 72) / 64 = omega arith in
    c.compress_prepared.ensures j below block (c.requires.padding alone m long j below)
    ∙ ap (λ (s : List ℕ). compress s block)
    (c.loop-t.invariant j below ∙ ap (hash_after initial_hash_256 p) done)
    ∙ sym (hash_next initial_hash_256 p t)
    ∙ ap (hash_after initial_hash_256 p) (count_of m c.args.width (t + 1) long all)

pub returns-else-filled_count-block_count : goal.returns-else-filled_count-block_count
returns-else-filled_count-block_count c = λ j below.
    let m = message c.args.width c.args.messages.now j in
    let long : length m ≡ c.args.width = length-message c.args.messages.now c.args.width 8 j c.requires.full below in
    c.loop-t.invariant j below ∙ ap (hash_after initial_hash_256 (padded_message m))
    (count_of m c.args.width c.loop-t.t long (omega (arith, c.loop-t.auto.t-end)))
