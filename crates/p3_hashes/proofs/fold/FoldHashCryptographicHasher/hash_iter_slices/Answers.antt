-- Each turn absorbs the words of one slice.
use Rattle.std.proofs.Common.{◌≡◌, ◌∙◌, ap, arith, [], map, append-nil}
use Rattle.std.specs.List.{fold, flat_map}
use Rattle.std.proofs.lemmas.Grind.{flat_map-append}
use Rattle.p3_hashes.specs.Fold.{fold_hash, take_in}
use Rattle.p3_support.proofs.LaneReads.{alone}
use Rattle.p3_support.proofs.Runs.{run_of_loop}
use Rattle.p3_hashes.proofs.FoldSteps.{absorbed_alone, fold_hash-append}
use Rattle.p3_hashes.proofs.fold.FoldHashCryptographicHasher.hash_iter_slices.Goals as goal

pub loop-words-init : goal.loop-words-init
loop-words-init g c = alone 0 c.initial_state-state.result (fold_hash g.row.D []) c.initial_state-state.ensures

pub loop-words-preserved : goal.loop-words-preserved
loop-words-preserved g c =
    let items = g.S.AsSlice.items in
    let words = items c.in-Some.words in
    rw (flat_map-append, append-nil) (absorbed_alone c.absorb_words.new.state c.loop-words.state
    c.as_slice.result.now (c.absorb_words.ensures 0 (omega arith))
    ∙ ap (λ l. map (λ s. fold take_in s l) c.loop-words.state) c.as_slice.ensures
    ∙ ap (map (λ s. fold take_in s words)) c.loop-words.invariant
    ∙ fold_hash-append g.row.D (flat_map items c.loop-words.yielded) words)

pub returns : goal.returns
returns g c =
    run_of_loop g.I.Iterator.next_gives (λ xs. c.loop-words.state ≡ fold_hash g.row.D (flat_map g.S.AsSlice.items xs))
    c.loop-words.yielded _ c.into_iter-words-iterator.ensures.into_iter_gives c.loop-words.yielded_by c.in-None.is
    c.next.ensures.steps c.loop-words.invariant
