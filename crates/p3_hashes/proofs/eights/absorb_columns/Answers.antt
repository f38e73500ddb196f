-- Each turn absorbs one more word of each message.
use Rattle.std.proofs.Common.{arith, ◌≡◌, ◌+◌, ◌<◌, ◌∙◌, ap, sym, [], ◌∷◌, length, map, take, slice_index_or}
use Rattle.std.proofs.lemmas.List.{take_more}
use Rattle.p3_hashes.specs.Fold.{fold_hash, take_in}
use Rattle.p3_hashes.specs.Inner.Eights.{lanes_of}
use Rattle.p3_support.specs.Lists.{lane_of, message}
use Rattle.p3_support.specs.Inner.RowLengths.{length-message}
use Rattle.p3_hashes.proofs.FoldSteps.{fold_hash-append}
use Rattle.p3_hashes.proofs.eights.absorb_columns.Goals as goal

pub loop-column-preserved : goal.loop-column-preserved
loop-column-preserved g c = λ k below.
    let row = message c.args.width c.args.messages.now (c.args.first + k) in
    let i = c.loop-column.column in
    let x = slice_index_or row i 0 in
    let state = lane_of lanes_of 0 k c.loop-column.state in
    let long : length row
    ≡ c.args.width = length-message c.args.messages.now c.args.width c.requires.full.0 (c.args.first + k)
    c.requires.full.2 (omega (arith, c.requires.full.1, below)) in
    let inside : i < length row = omega (arith, long, c.loop-column-test.true) in
    c.absorb.ensures k below ∙ ap (λ w. map (λ s. take_in s w) state) (c.column_of.ensures k below)
    ∙ ap (map (λ s. take_in s x)) (c.loop-column.invariant k below)
    ∙ fold_hash-append g.row.D (take i row) (x ∷ []) ∙ ap (fold_hash g.row.D) (sym (take_more row i 0 inside))
