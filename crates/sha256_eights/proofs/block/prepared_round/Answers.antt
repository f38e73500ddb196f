-- The constant and the word, as their sum.
use Rattle.std.proofs.Common.{◌≡◌, ◌∷◌, ◌∙◌, ℕ, List, [], ap, arith, slice_index, sym}
use Rattle.sha2.specs.Sha256.{add32, round, round_constants, schedule, temp1, temp2}
use Rattle.sha2.proofs.Schedule256.{rounds_next}
use Rattle.sha256_eights.specs.Inner.Lanes.{lane}
use Rattle.sha256_eights.proofs.Lanewise.{lane_word}
use Rattle.sha256_eights.proofs.block.prepared_round.Goals as goal

one_by_one : (x k word : ℕ) → add32 (add32 x 0) (add32 k word) ≡ add32 (add32 x k) word
one_by_one x k word = omega arith

round_by_sum : (v : List ℕ) (k word : ℕ) → round v 0 (add32 k word) ≡ round v k word
round_by_sum v k word =
    let same : temp1 v 0 (add32 k word) ≡ temp1 v k word = one_by_one _ k word in
    ap (λ (t : ℕ). add32 t (temp2 v) ∷ slice_index v 0 ∷ slice_index v 1 ∷ slice_index v 2
    ∷ add32 (slice_index v 3) t ∷ slice_index v 4 ∷ slice_index v 5 ∷ slice_index v 6 ∷ []) same

pub returns : goal.returns
returns c = λ j below b h are held.
    let t = c.args.t in
    let k = slice_index round_constants t in
    let word = slice_index (schedule b 48) t in
    c.round.ensures j below
    ∙ ap (round (lane j c.args.v) 0) (sym (lane_word j c.args.inputs.now t) ∙ are t c.requires)
    ∙ round_by_sum (lane j c.args.v) k word
    ∙ ap (λ v. round v k word) held ∙ sym (rounds_next h (schedule b 48) t)
