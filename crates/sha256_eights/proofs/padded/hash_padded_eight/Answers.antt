-- Each turn writes the digest of one message.
use Rattle.std.proofs.Common.{◌≡◌, ℕ, List, ◌*◌, ◌/◌, ◌<◌, ◌∙◌, ap, refl, length, arith, sym}
use Rattle.sha2.specs.Sha256.{digest_bytes, hash_after, initial_hash_256, padded_message, sha256}
use Rattle.sha256_eights.proofs.Padding.{length-message}
use Rattle.sha256_eights.specs.Messages.{message}
use Rattle.sha256_eights.proofs.Written.{one_written}
use Rattle.sha256_eights.proofs.padded.hash_padded_eight.Goals as goal

-- how many blocks the padded message has
count_of : (blocks m : List ℕ) (count j : ℕ) → j < 8 → length blocks ≡ 8 * (64 * count) →
    message (64 * count) blocks j ≡ padded_message m → count ≡ length (padded_message m) / 64
count_of blocks m count j below full is =
    let long : 64 * count ≡ length (padded_message m) =
    sym (length-message blocks (64 * count) 8 j full below) ∙ ap length is in
    omega (arith, long)

pub loop-j-preserved : goal.loop-j-preserved
unfolding sha256
loop-j-preserved c =
    let j = c.loop-j.j in
    let count = c.args.count in
    let below : j < 8 = omega arith in
    one_written c.digest_of.result c.loop-j.invariant (omega arith) refl (omega arith)
    (λ m is. c.digest_of.ensures ∙ ap (λ (h : List ℕ). digest_bytes h 8)
    (c.lane_words.ensures ∙ c.whole_states-state.ensures j below
    ∙ ap (λ (p : List ℕ). hash_after initial_hash_256 p count) is
    ∙ ap (hash_after initial_hash_256 (padded_message m)) (count_of c.args.blocks.now m count j below c.requires is)))

pub returns : goal.returns
returns c = λ j m below is.
    c.loop-j.invariant.written j (omega arith) (omega (arith, c.loop-j.auto.j-end)) m is
