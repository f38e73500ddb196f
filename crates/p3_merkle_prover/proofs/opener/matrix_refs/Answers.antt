-- The references so far are to the first matrices.
use Rattle.std.proofs.Common.{sym, ap, ◌∙◌, ◌++◌, ◌∷◌, [], take, refl}
use Rattle.std.proofs.lemmas.{List.take_more, List.map-append, List.take_all}
use Rattle.p3_merkle_prover.proofs.opener.matrix_refs.Goals as goal

pub loop-matrix-preserved : goal.loop-matrix-preserved
loop-matrix-preserved g c =
    let all = c.deref-matrix-items.result.now in
    let i = c.loop-matrix.matrix-index in
    rw (c.in_ok-push.ensures.items, map-append, c.loop-matrix.invariant)
    (sym (take_more all i c.matrix-item.result c.loop-matrix-test.true
    ∙ ap (λ m. take i all ++ m ∷ []) (sym c.matrix-item.is)))

pub loop-matrix-init : goal.loop-matrix-init
loop-matrix-init g c = rw c.in_ok-matrices.ensures.items refl

pub returns-clause-matrices : goal.returns-clause-matrices
returns-clause-matrices g c =
    c.loop-matrix.invariant
    ∙ take_all c.loop-matrix.matrix-index c.deref-matrix-items.result.now c.loop-matrix-test.false
    ∙ c.deref-matrix-items.ensures.value
