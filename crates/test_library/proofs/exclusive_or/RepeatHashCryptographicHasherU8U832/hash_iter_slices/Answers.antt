use Rattle.std.proofs.Common.{◌≡◌, ◌∙◌, ap, sym, ◌∷◌, [], ◌++◌, append-nil, replicate, slice_get, slice_index_or}
use Rattle.std.proofs.Common.{unwrap_or}
use Rattle.std.specs.List.{flat_map}
use Rattle.std.specs.Option.{option_or}
use Rattle.std.proofs.lemmas.Grind.{flat_map-append}
use Rattle.p3_support.proofs.Runs.{run_of_loop}
use Rattle.test_library.proofs.FirstBytes.{first_of_both, first_or}
use Rattle.test_library.proofs.exclusive_or.RepeatHashCryptographicHasherU8U832.hash_iter_slices.Goals as goal

pub loop-bytes-preserved : goal.loop-bytes-preserved
loop-bytes-preserved g c =
    let items = g.S.AsSlice.items in
    let before = c.loop-bytes.yielded in
    let bytes = c.in-Some.bytes in
    let more : flat_map items (before ++ bytes ∷ []) ≡ flat_map items before ++ items bytes =
    flat_map-append items before (bytes ∷ []) ∙ ap (λ xs. flat_map items before ++ xs) (append-nil (items bytes)) in
    c.or-first.ensures ∙ ap (λ next. option_or c.loop-bytes.first next) (c.copied.ensures ∙ c.first.ensures.value
    ∙ ap (λ xs. slice_get xs 0) c.as_slice.ensures)
    ∙ ap (λ first. option_or first (slice_get (items bytes) 0)) c.loop-bytes.invariant
    ∙ first_of_both (flat_map items before) (items bytes) ∙ ap (λ xs. slice_get xs 0) (sym more)

pub returns : goal.returns
returns g c =
    let all = flat_map g.S.AsSlice.items c.loop-bytes.yielded in
    let first : c.unwrap_or.result ≡ slice_index_or all 0 0 = c.unwrap_or.ensures
    ∙ ap (λ first. unwrap_or first 0) c.loop-bytes.invariant ∙ first_or all 0 in
    run_of_loop g.I.Iterator.next_gives (λ xs. replicate 32 c.unwrap_or.result
    ≡ replicate 32 (slice_index_or (flat_map g.S.AsSlice.items xs) 0 0)) c.loop-bytes.yielded _
    c.into_iter-bytes-iterator.ensures.into_iter_gives c.loop-bytes.yielded_by c.in-None.is c.next.ensures.steps
    (ap (replicate 32) first)
