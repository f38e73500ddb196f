-- The copies so far have the words of the lists so far.
use Rattle.std.proofs.Common.{◌≡◌, refl, sym, ap, ◌+◌, ◌∙◌, ◌++◌, ◌∷◌, [], take}
use Rattle.std.proofs.lemmas.List.{take_more, map-append}
use Rattle.end_to_end.proofs.by_paths.copies_of.Goals as goal

pub loop-list-preserved : goal.loop-list-preserved
loop-list-preserved g c =
    let all = c.args.lists.now in
    let i = c.loop-list.list-index in
    let more : take (i + 1) all ≡ take i all ++ c.list-item.result ∷ [] =
    take_more all i c.list-item.result c.loop-list-test.true ∙ ap (λ v. take i all ++ v ∷ []) (sym c.list-item.is) in
    rw (
      c.in_ok-push.ensures.items,
      map-append,
      c.loop-list.invariant,
      more,
      map-append,
      c.in_ok-from_slice.ensures.items,
      c.deref.ensures.value,
    ) refl
