-- The block's words, and each word that follows from those before it.
use Rattle.std.proofs.Common.{◌≡◌, ◌∙◌, ◌<◌, ◌*◌, ◌-◌, ◌++◌, ℕ, List, [], ap, arith, get_or, length, refl}
use Rattle.std.proofs.Common.{length-append, slice_index, sym}
use Rattle.std.proofs.lemmas.List.{ext_get_or, get_or_append_left, length-map}
use Rattle.sha2.specs.Sha256.{schedule, word_at}
use Rattle.sha2.proofs.Schedule256.{length-schedule, slice_index-schedule_first, slice_index-schedule_next}
use Rattle.sha256_eights.specs.Inner.Lanes.{lane}
use Rattle.sha256_eights.proofs.Lanewise.{lane_word}
use Rattle.sha256_eights.proofs.Written.{one_written}
use Rattle.sha256_eights.proofs.block.schedule.Goals as goal

-- the words of a block, whatever stands after them
block_words : (front rest block : List (List ℕ)) → front ≡ block → length block ≡ 16 → (k : ℕ) → k < 16 → (j : ℕ)
    → (b : List ℕ) → ((i : ℕ) → i < 16 → slice_index (lane j block) i ≡ word_at b (4 * i))
    → slice_index (get_or (front ++ rest) k []) j ≡ slice_index (schedule b 48) k
block_words front rest block same long k inside j b words =
    let within : k < length front = omega (arith, inside, ap length same, long) in
    ap (λ (v : List ℕ). slice_index v j) (get_or_append_left front rest [] k within ∙ ap (λ ws. get_or ws k []) same)
    ∙ sym (lane_word j block k) ∙ words k inside ∙ sym (slice_index-schedule_first b 48 k inside)

block_long : (front rest block : List (List ℕ)) → front ≡ block → length block ≡ 16 → length rest ≡ 48
    → length (front ++ rest) ≡ 64
block_long front rest block same long more = omega (arith, length-append front rest, ap length same, long, more)

pub loop-t-init : goal.loop-t-init
loop-t-init c = record {
  long = block_long c.copy_from_slice.new.self _ c.args.block.now c.copy_from_slice.ensures.after (omega arith) refl;
  before = λ j none. absurd (omega arith);
  written = λ k low inside j below b words. block_words c.copy_from_slice.new.self _ c.args.block.now
      c.copy_from_slice.ensures.after (omega arith) k inside j b words;
}

pub loop-t-preserved : goal.loop-t-preserved
loop-t-preserved c =
    let t = c.loop-t.t in
    let low = c.loop-t.auto.t in
    let high = c.loop-t-test.true in
    one_written c.schedule_word.result c.loop-t.invariant (omega arith) refl (omega arith) (λ j below b is.
    let at : (i : ℕ) → i < t → slice_index (get_or c.loop-t.words i []) j ≡ slice_index (schedule b 48) i =
    λ i under. c.loop-t.invariant.written i (omega arith) under j below b is in
    rw (
      c.schedule_word.ensures j below,
      at (t - 2) (omega (arith, low)),
      at (t - 7) (omega (arith, low)),
      at (t - 15) (omega (arith, low)),
      at (t - 16) (omega (arith, low)),
    ) (sym (slice_index-schedule_next b 48 t low (omega (arith, high)))))

pub returns : goal.returns
returns c = λ j below b words.
    let all = c.loop-t.words in
    let long : length (lane j all) ≡ 64 = length-map all (λ (v : List ℕ). slice_index v j) ∙ c.loop-t.invariant.long in
    ext_get_or 0 (lane j all) (schedule b 48) (long ∙ sym (length-schedule b 48)) (λ k inside.
    lane_word j all k ∙ c.loop-t.invariant.written k (omega arith) (omega (arith, inside, long, c.loop-t-test.false))
    j below b words)
