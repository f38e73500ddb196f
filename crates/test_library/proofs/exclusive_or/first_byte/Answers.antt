use Rattle.std.proofs.Common.{◌≡◌, ◌∙◌, ap, ◌∷◌, [], slice_index_or, unwrap_or, Some}
use Rattle.std.specs.Option.{option_or}
use Rattle.p3_support.proofs.Runs.{run_of_loop}
use Rattle.test_library.proofs.FirstBytes.{first_of_both, first_or}
use Rattle.test_library.proofs.exclusive_or.first_byte.Goals as goal

pub loop-byte-preserved : goal.loop-byte-preserved
loop-byte-preserved g c =
    let byte = c.in-Some.byte in
    c.or-first.ensures ∙ ap (λ first. option_or first (Some byte)) c.loop-byte.invariant
    ∙ first_of_both c.loop-byte.yielded (byte ∷ [])

pub returns : goal.returns
returns g c =
    run_of_loop g.I.Iterator.next_gives (λ xs. c.unwrap_or.result ≡ slice_index_or xs 0 0) c.loop-byte.yielded _
    c.into_iter-byte-iterator.ensures.into_iter_gives c.loop-byte.yielded_by c.in-None.is c.next.ensures.steps
    (c.unwrap_or.ensures ∙ ap (λ first. unwrap_or first 0) c.loop-byte.invariant ∙ first_or c.loop-byte.yielded 0)
