-- Each turn mixes one element of the child into its element of the digest.
use Rattle.std.proofs.Common.{rules, arith, refl, ◌≡◌, ℕ, ◌+◌, ◌%◌, ◌^◌, ◌<◌, ◌∙◌, ap, length, slice_index_or, inl, inr}
use Rattle.std.proofs.lemmas.Bool.{cases_eq}
use Rattle.std.proofs.lemmas.List.{get_or-map}
use Rattle.p3_hashes.specs.Fold.{mix_in}
use Rattle.p3_hashes.proofs.FoldSteps.{mixed}
use Rattle.p3_support.proofs.LaneReads.{lane_of_set, lane_of_written}
use Rattle.p3_hashes.proofs.fold.mix.Goals as goal

pub loop-e-preserved : goal.loop-e-preserved
loop-e-preserved g c =
    let e = c.loop-e.e in
    let old = c.loop-e.digest in
    let new = c.add_to_each.result in
    let child = c.args.child.now in
    let inside : e < length old = search rules in
    let of = λ (k : ℕ) (p : g.row.P.Denot). slice_index_or (g.P.PackedValue.lanes p) k g.P.PackedValue.default_value
    in (
      search rules,
      λ k j below inner.
          elim (cases_eq j e) [
            | inl same ↦
                let read = get_or-map (of k) old e c.index-digest-e.result 0 inside in
                let word = get_or-map (of k) child e c.index-child-e.result 0 (search rules) in
                let s = of k (slice_index_or old e c.index-digest-e.result) in
                let x = of k (slice_index_or child e c.index-child-e.result) in
                let element : of k new ≡ mix_in s (c.args.place, x) =
                c.add_to_each.ensures k below
                ∙ ap (λ n. (of k c.mul_31_add.result + n) % 2 ^ 32) c.low_bits-number.ensures
                ∙ ap (λ t. (t + c.args.place % 2 ^ 32) % 2 ^ 32) (c.mul_31_add.ensures k below)
                ∙ mixed s x c.args.place in
                rw same (lane_of_written (of k) old e new 0 inside ∙ element
                ∙ rw (← read, ← word, c.loop-e.invariant.2 k e (omega arith)) refl)
            | inr other ↦ lane_of_set (of k) old e j new 0 other
                ∙ c.loop-e.invariant.1 k j below (omega (arith, other, inner))
          ],
      λ k j above. lane_of_set (of k) old e j new 0 (λ same. omega (arith, same, above))
          ∙ c.loop-e.invariant.2 k j (omega (arith, above)),
    )
