-- Each turn absorbs one word in each lane.
use Rattle.std.proofs.Common.{◌≡◌, ℕ, ◌<◌, List, map, ap, sym, ◌∙◌, ◌∷◌, [], slice_index_or}
use Rattle.std.proofs.lemmas.List.{map-append}
use Rattle.p3_hashes.specs.Fold.{fold_hash, take_in}
use Rattle.p3_support.specs.Lists.{lane_of}
use Rattle.p3_hashes.proofs.FoldSteps.{fold_hash-append}
use Rattle.p3_support.proofs.Runs.{run_of_loop}
use Rattle.p3_hashes.proofs.fold.hash_lanes.Goals as goal

pub loop-word-preserved : goal.loop-word-preserved
loop-word-preserved g c = λ k below.
    let of = λ (p : g.row.P.Denot). slice_index_or (g.P.PackedValue.lanes p) k g.P.PackedValue.default_value in
    let word = c.in-Some.word in
    c.absorb.ensures k below ∙ ap (map (λ s. take_in s (of word))) (c.loop-word.invariant k below)
    ∙ fold_hash-append g.row.D (map of c.loop-word.yielded) (of word ∷ [])
    ∙ ap (fold_hash g.row.D) (sym (map-append of c.loop-word.yielded (word ∷ [])))

pub returns : goal.returns
returns g c =
    let of = λ (k : ℕ) (ps : List g.row.P.Denot). lane_of g.P.PackedValue.lanes g.P.PackedValue.default_value k ps in
    run_of_loop g.I.Iterator.next_gives (λ xs. (k : ℕ) → k < g.P.PackedValue.WIDTH → of k c.loop-word.state
    ≡ fold_hash g.row.D (of k xs)) c.loop-word.yielded _ c.into_iter-word-iterator.ensures.into_iter_gives
    c.loop-word.yielded_by c.in-None.is c.next.ensures.steps c.loop-word.invariant
