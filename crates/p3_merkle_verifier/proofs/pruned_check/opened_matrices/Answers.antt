-- The rows of the matrices so far are those that the queries opened of them (`rows`).
use Rattle.std.proofs.Common.{◌≡◌, ◌∙◌, ℕ, ◌<◌, [], All, ap, arith, get_or, length, refl, subst, sym, zip}
use Rattle.std.proofs.lemmas.List.{get_or-map, length-map, take_all}
use Rattle.std.proofs.lemmas.List.Elements.{All-push}
use Rattle.std.proofs.lemmas.Slice.Zip.{length-zip}
use Rattle.std.specs.List.{flat_map}
use Rattle.std.specs.declared.vec.Vec.{Vec}
use Rattle.p3_support.specs.Batches.{heights_of}
use Rattle.p3_support.specs.RowSets.{sets_in}
use Rattle.p3_support.specs.declared.matrix.Dimensions.{Dimensions}
use Rattle.p3_merkle_core.specs.Checks.{words_of_exponent}
use Rattle.p3_merkle_core.specs.Geometry.{exponent}
use Rattle.p3_merkle_verifier.specs.Inner.OpenedMatrices.{row_in}
use Rattle.p3_merkle_verifier.proofs.OpenedFacts.{have_rows, opened_more, opened_same, row_set_long}
use Rattle.p3_merkle_verifier.proofs.pruned_check.opened_matrices.Goals as goal
use Rattle.p3_merkle_verifier.proofs.pruned_check.opened_matrices.Goals.{then-exponent_of-exponent+in_ok-push}
use Rattle.p3_merkle_verifier.proofs.pruned_check.opened_matrices.Goals.{else-exponent_of-exponent}

pub loop-place-preserved : goal.loop-place-preserved
loop-place-preserved g c =
    let restorable = c.args.restorable.now in
    let dimensions = restorable.schedule.now.dimensions.now in
    let heights = heights_of dimensions in
    let sets = sets_in restorable.opening.sets in
    let queries = c.args.queries.now in
    let x = c.args.exponent in
    let i = c.loop-place.place in
    let old = c.loop-place.matrices.items in
    let new = c.if-exponent_of-exponent.matrices.items in
    let inside : i < length dimensions = c.loop-place-test.true in
    let in_heights : i < length heights = omega (arith, length-map dimensions (λ (m : Dimensions). m.height)) in
    let here : exponent (get_or heights i 0) ≡ c.exponent_of.result =
    ap exponent (get_or-map (λ (m : Dimensions). m.height) dimensions i (record { width = 0; height = 0 }) 0 inside)
    ∙ sym c.exponent_of.ensures in
    let rows = λ (j : ℕ). get_or sets (get_or queries j 0) [] in
    let in_rows : (j : ℕ) → j < length queries → i < length (rows j) = λ j h.
    let query : get_or queries j 0 < length restorable.opening.indices.now = c.requires j 0 h in
    let among : get_or queries j 0 < length sets =
    omega (arith, query, restorable.pairs) in
    omega (arith, row_set_long dimensions sets (get_or queries j 0) restorable.fit among) in
    elim c.if-exponent_of-exponent.branch [
      | then-exponent_of-exponent+in_ok-push w ↦
          let pushed = ap (λ (v : Vec _ _). v.items) w.matrices-is ∙ w.in_ok-push.ensures.items in
          record {
            long = subst (All (λ m. length m.queries.now ≡ length queries)) (sym pushed)
                (All-push (λ m. length m.queries.now ≡ length queries) old _ c.loop-place.invariant.long
                refl);
            rows = λ j h. opened_more x heights (rows j) i (λ m. row_in m j) old new _ in_heights (in_rows j h)
                (here ∙ w.if-exponent_of-exponent.true) pushed
                refl
                (c.loop-place.invariant.rows j h);
          }
      | else-exponent_of-exponent w ↦
          let same = ap (λ (v : Vec _ _). v.items) w.matrices-is in
          record {
            long = subst (All (λ m. length m.queries.now ≡ length queries)) (sym same) c.loop-place.invariant.long;
            rows = λ j h. opened_same x heights (rows j) i (λ m. row_in m j) new in_heights (in_rows j h)
                (λ e. w.if-exponent_of-exponent.false (sym here ∙ e))
                (ap (λ ms. flat_map (λ m. row_in m j) ms) same ∙ c.loop-place.invariant.rows j h);
          }
    ]

pub returns : goal.returns
returns g c =
    let restorable = c.args.restorable.now in
    let dimensions = restorable.schedule.now.dimensions.now in
    let heights = heights_of dimensions in
    let sets = sets_in restorable.opening.sets in
    let queries = c.args.queries.now in
    let x = c.args.exponent in
    let i = c.loop-place.place in
    record {
      heights = c.loop-place.invariant.long;
      rows = λ j h.
          let rows = get_or sets (get_or queries j 0) [] in
          c.loop-place.invariant.rows j h
          ∙ ap (words_of_exponent x) (take_all i (zip heights rows)
          (omega (arith, length-zip heights rows, length-map dimensions (λ (m : Dimensions). m.height))));
    }

pub invariant_of-push : goal.invariant_of-push
invariant_of-push g c =
    let restorable = c.args.restorable.now in
    let dimensions = restorable.schedule.now.dimensions.now in
    let sets = sets_in restorable.opening.sets in
    let i = c.loop-place.place in
    let none : Dimensions = record { width = 0; height = 0 } in
    let inside : i < length dimensions = c.loop-place-test.true in
    record {
      among =
          (λ k d h. let query : get_or c.args.queries.now k d < length restorable.opening.indices.now =
          c.requires k d h in
          omega (arith, query, restorable.pairs));
      fit = have_rows dimensions sets i (get_or dimensions i none).width restorable.fit inside
          (sym (get_or-map (λ (m : Dimensions). m.width) dimensions i none 0 inside));
    }
