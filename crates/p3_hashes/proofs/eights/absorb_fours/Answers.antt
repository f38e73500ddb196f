-- Each turn absorbs the next four words of each message.
use Rattle.std.proofs.Common.{arith, ◌≡◌, ◌+◌, ◌-◌, ◌*◌, ◌++◌, ◌∙◌, ap, sym, map, take, drop, take-add, slice_range}
use Rattle.std.specs.List.{fold}
use Rattle.p3_hashes.specs.Inner.Eights.{lanes_of}
use Rattle.p3_hashes.specs.Fold.{fold_hash, take_in}
use Rattle.p3_support.specs.Lists.{lane_of, message}
use Rattle.p3_hashes.proofs.FoldSteps.{fold_hash-append}
use Rattle.p3_hashes.proofs.eights.absorb_fours.Goals as goal

pub loop-block-preserved : goal.loop-block-preserved
loop-block-preserved g c = λ k below.
    let row = message c.args.width c.args.messages.now (c.args.first + k) in
    let i = 4 * c.loop-block.block in
    let words = slice_range row i (i + 4) in
    let state = lane_of lanes_of 0 k c.loop-block.state in
    let four : i + 4 - i ≡ 4 = omega arith in
    let next : i + 4 ≡ 4 * (c.loop-block.block + 1) = omega arith in
    c.absorb_words.ensures k below ∙ ap (λ l. map (λ s. fold take_in s l) state) (c.columns_of_eight.ensures k below)
    ∙ ap (map (λ s. fold take_in s words)) (c.loop-block.invariant k below)
    ∙ fold_hash-append g.row.D (take i row) words
    ∙ ap (fold_hash g.row.D) (ap (λ n. take i row ++ take n (drop i row)) four ∙ sym (take-add i 4 row)
    ∙ ap (λ n. take n row) next)
