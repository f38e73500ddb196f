-- Each turn writes the digest of one message of the eight.
use Rattle.std.proofs.Common.{List, ℕ, ◌+◌, ◌<◌, ◌∙◌, ap, length, arith}
use Rattle.sha2.specs.Sha256.{digest_bytes, sha256}
use Rattle.sha256_eights.proofs.Padding.{length-eight, message_of_part, messages_inside}
use Rattle.sha256_eights.proofs.Written.{one_written}
use Rattle.sha256_eights.proofs.messages.hash_eight.Goals as goal

pub hash_states-state-requires-clause-full : goal.hash_states-state-requires-clause-full
hash_states-state-requires-clause-full g c =
    length-eight c.args.width c.args.first c.args.messages.now
    (messages_inside c.args.width (c.args.first + 8) (length c.args.out.now) (length c.args.messages.now)
    c.requires.inside c.requires.full)

pub loop-j-preserved : goal.loop-j-preserved
unfolding sha256
loop-j-preserved g c =
    let j = c.loop-j.j in
    let below : j < 8 = omega arith in
    one_written c.array.result c.loop-j.invariant (omega arith) (omega arith) (omega arith)
    (c.array.ensures ∙ c.digest_of.ensures ∙ ap (λ (h : List ℕ). digest_bytes h 8)
    (c.lane_words.ensures ∙ c.hash_states-state.ensures j below)
    ∙ ap sha256 (message_of_part c.args.width c.args.messages.now c.args.first j below))
