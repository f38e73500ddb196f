-- One more matrix.
use Rattle.std.proofs.Common.{◌≡◌, refl, List, sym, ap, ◌+◌, ◌∙◌, ◌++◌, ◌∷◌, [], take}
use Rattle.std.proofs.lemmas.List.{take_all, take_more, map-append}
use Rattle.std.proofs.lemmas.Result.{err_from_is_err_and}
use Rattle.p3_support.specs.Batches.{dimensions_in}
use Rattle.p3_support.specs.declared.matrix.Dimensions.{Dimensions}
use Rattle.p3_support.proofs.matrix.dimensions_of.Goals as goal

pub loop-matrix-preserved : goal.loop-matrix-preserved
loop-matrix-preserved g c =
    let all = c.args.matrices.now in
    let i = c.loop-matrix.matrix-index in
    let more : take (i + 1) all ≡ take i all ++ c.matrix-item.result ∷ [] =
    take_more all i c.matrix-item.result c.loop-matrix-test.true
    ∙ ap (λ m. take i all ++ m ∷ []) (sym c.matrix-item.is) in
    rw (
      c.in_ok-push.ensures.items,
      c.loop-matrix.invariant,
      more,
      map-append,
      ← c.dimensions.ensures.width,
      ← c.dimensions.ensures.height,
    ) (refl {A = List Dimensions})

pub returns : goal.returns
returns g c = c.loop-matrix.invariant
    ∙ ap (dimensions_in g.M.Matrix.height_of g.M.Matrix.width_of)
    (take_all c.loop-matrix.matrix-index c.args.matrices.now c.loop-matrix-test.false)

-- memory has run out
pub returns-in_err-dimensions : goal.returns-in_err-dimensions
returns-in_err-dimensions g c =
    rw (err_from_is_err_and c.from_residual.result c.from_residual.ensures.1).1 tt

pub returns-in_err-push : goal.returns-in_err-push
returns-in_err-push g c =
    rw (err_from_is_err_and c.from_residual-in_err-push.result c.from_residual-in_err-push.ensures.1).1 tt
