-- Each turn absorbs one word in each lane.
use Rattle.std.proofs.Common.{rules, ◌≡◌, ◌<◌, ◌∙◌, ap, sym, length, map, take, slice_index, slice_index_or}
use Rattle.std.specs.List.{fold}
use Rattle.std.proofs.lemmas.List.{get_or-map, length-map}
use Rattle.p3_hashes.specs.Fold.{take_in}
use Rattle.p3_hashes.proofs.FoldSteps.{absorbed_more}
use Rattle.p3_hashes.proofs.fold.absorb_words.Goals as goal

pub loop-word-preserved : goal.loop-word-preserved
loop-word-preserved g c = λ k below.
    let of = λ (p : g.row.P.Denot). slice_index_or (g.P.PackedValue.lanes p) k g.P.PackedValue.default_value in
    let words = c.args.words.now in
    let i = c.loop-word.word-index in
    let x = c.word-item.result in
    let inside : i < length words = search rules in
    let long : i < length (map of words) = rw (length-map words of) inside in
    let read : of x ≡ slice_index (map of words) i = ap of c.word-item.is ∙ sym (get_or-map of words i x 0 inside) in
    let state = map of c.args.state.now in
    c.absorb.ensures k below ∙ ap (map (λ s. take_in s (of x))) (c.loop-word.invariant k below)
    ∙ ap (λ v. map (λ s. take_in s v) (map (λ s. fold take_in s (take i (map of words))) state)) read
    ∙ absorbed_more (map of words) state i long
