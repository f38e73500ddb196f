-- The places so far have their indices; once sorted, they are all places, and the indices ascend.
use Rattle.std.proofs.Common.{◌≡◌, ℕ, List, ◌∙◌, ap, arith, length, map, refl, subst}
use Rattle.std.specs.List.{range_with_len}
use Rattle.std.specs.List.Sorted.{IsPermutation}
use Rattle.tlog_files.proofs.WantedFacts.{one_more_place, sorted_ascends}
use Rattle.tlog_files.specs.Inner.Wanted.{place_of}
use Rattle.tlog_files.proofs.wanted.places_in_order.Goals as goal

pub loop-place-preserved : goal.loop-place-preserved
loop-place-preserved c =
    c.in_ok-push.ensures.items
    ∙ one_more_place c.args.wanted.now c.loop-place.place c.loop-place.places.items _ refl c.loop-place.invariant

pub returns : goal.returns
returns c =
    let wanted = c.args.wanted.now in
    let sorted = c.sort_unstable.new.self.items in
    let end : c.loop-place.place ≡ length wanted =
    omega (arith, c.loop-place-test.false, c.loop-place.auto.place-end) in (
      subst (λ (ps : List (ℕ × ℕ)). IsPermutation ps sorted)
          (c.loop-place.invariant ∙ ap (λ (n : ℕ). map (place_of wanted) (range_with_len 0 n)) end)
          c.sort_unstable.ensures.permutation,
      sorted_ascends sorted c.sort_unstable.ensures.sorted,
    )
