-- Each word has its constant added to it.
use Rattle.std.proofs.Common.{◌≢◌, ◌∙◌, [], ap, arith, get_or, refl, slice_index, sym}
use Rattle.std.proofs.lemmas.List.{get_or-set_other}
use Rattle.sha2.specs.Sha256.{add32, round_constants}
use Rattle.sha256_eights.proofs.Lanewise.{lane_word, splatted}
use Rattle.sha256_eights.proofs.Written.{one_written}
use Rattle.sha256_eights.proofs.block.round_inputs.Goals as goal

pub loop-t-preserved : goal.loop-t-preserved
loop-t-preserved c =
    let (so_far, rest) = c.loop-t.invariant in
    let inputs = c.loop-t.inputs in
    let t = c.loop-t.t in
    let k = slice_index round_constants t in (
      one_written c.add.result so_far (omega arith) refl (omega (arith, so_far.long)) (λ j below. c.add.ensures j below
          ∙ ap (λ n. add32 n (slice_index (get_or inputs t []) j)) ((splatted k).each j below)
          ∙ ap (λ v. add32 k (slice_index v j)) (rest t (omega arith))),
      λ n high.
          let apart : n ≢ t = omega (arith, high) in
          get_or-set_other inputs t n c.add.result [] apart ∙ rest n (omega (arith, high)),
    )

pub returns : goal.returns
returns c = λ j below b words t inside.
    lane_word j c.loop-t.inputs t
    ∙ c.loop-t.invariant.0.written t (omega arith) (omega (arith, inside, c.loop-t-test.false)) j below
    ∙ ap (add32 (slice_index round_constants t)) (sym (lane_word j c.schedule-inputs.result t)
    ∙ ap (λ ws. slice_index ws t) (c.schedule-inputs.ensures j below b words))
