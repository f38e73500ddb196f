-- The copies so far have the digests of the layers so far.
use Rattle.std.proofs.Common.{◌≡◌, refl, sym, ap, ◌+◌, ◌∙◌, ◌++◌, ◌∷◌, [], take}
use Rattle.std.proofs.lemmas.List.{take_more, map-append}
use Rattle.p3_merkle_prover.proofs.tree.copies_of.Goals as goal

pub loop-nodes-preserved : goal.loop-nodes-preserved
loop-nodes-preserved g c =
    let all = c.args.layers.now in
    let i = c.loop-nodes.nodes-index in
    let more : take (i + 1) all ≡ take i all ++ c.nodes-item.result ∷ [] =
    take_more all i c.nodes-item.result c.loop-nodes-test.true
    ∙ ap (λ v. take i all ++ v ∷ []) (sym c.nodes-item.is) in
    rw (
      c.in_ok-push.ensures.items,
      map-append,
      c.loop-nodes.invariant,
      more,
      map-append,
      c.in_ok-from_slice.ensures.items,
      c.deref.ensures.value,
    ) refl
