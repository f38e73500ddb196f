-- Each turn hashes one block of each message.
use Rattle.std.proofs.Common.{◌≡◌, ℕ, List, ◌*◌, ◌∙◌, sym, ap, take, drop, arith}
use Rattle.sha2.specs.Sha256.{compress, hash_after, initial_hash_256}
use Rattle.sha256_eights.specs.Messages.{message}
use Rattle.sha256_eights.proofs.Padding.{hash_next, word_of_block}
use Rattle.sha256_eights.proofs.padded.whole_states.Goals as goal

pub loop-t-init : goal.loop-t-init
unfolding hash_after
loop-t-init c = c.initial_state-state.ensures

pub loop-t-preserved : goal.loop-t-preserved
loop-t-preserved c = λ j below.
    let p = message (64 * c.args.count) c.args.messages.now j in
    let t = c.loop-t.t in
    let block = take 64 (drop (t * 64) p) in
    c.compress_eight.ensures j below block (λ i inside. c.load_block.ensures j i below inside
    ∙ sym (word_of_block p t i inside))
    ∙ ap (λ (s : List ℕ). compress s block) (c.loop-t.invariant j below) ∙ sym (hash_next initial_hash_256 p t)

pub returns : goal.returns
returns c = λ j below.
    let done : c.loop-t.t ≡ c.args.count = omega (arith, c.loop-t.auto.t-end) in
    c.loop-t.invariant j below
    ∙ ap (hash_after initial_hash_256 (message (64 * c.args.count) c.args.messages.now j)) done
