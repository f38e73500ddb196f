-- The slots so far have become their parents; repeats among these stand side by side, and are dropped.
use Rattle.std.proofs.Common.{◌≡◌, ◌<◌, ◌≤◌, ℕ, List, ◌∙◌, ◌/◌, ◌++◌, ap, append-nil, arith, drop, eqb}
use Rattle.std.proofs.Common.{get_or, length, map}
use Rattle.std.proofs.lemmas.List.{drop_all, get_or_default, take_all, with_items_is}
use Rattle.std.proofs.lemmas.List.Edits.{map_over_more}
use Rattle.std.proofs.lemmas.List.Filters.{dedup_is}
use Rattle.std.specs.List.{dedup}
use Rattle.tlog_multiproof.proofs.opening.climb.Goals as goal

abbrev half : ℕ → ℕ
half slot = slot / 2

pub loop-slot-preserved : goal.loop-slot-preserved
loop-slot-preserved c =
    let old = c.args.covered.now.items in
    let slots = c.loop-slot.slot-items in
    let i = c.loop-slot.slot-index in
    let given = c.deref_mut-slot-items.ensures in
    let inside : i < length old = omega (arith, c.loop-slot-test.true, ap length given.value) in
    let there : i < length slots = omega (arith, c.loop-slot-test.true, c.loop-slot.auto.slot-items) in
    map_over_more half old slots i (get_or slots i 0) inside c.loop-slot.invariant (get_or_default slots i 0 _ there)

pub returns : goal.returns
returns c =
    let old = c.args.covered.now.items in
    let slots = c.loop-slot.slot-items in
    let i = c.loop-slot.slot-index in
    let given = c.deref_mut-slot-items.ensures in
    let long : length slots ≡ c.args.covered.now.len = omega (arith, c.loop-slot.auto.slot-items, given.len) in
    let past : length old ≤ i = omega (arith, c.loop-slot-test.false, ap length given.value) in
    dedup_is _ _ _ c.dedup.ensures.filtered
    ∙ ap (dedup eqb) (with_items_is c.args.covered.now slots long ∙ c.loop-slot.invariant
    ∙ ap (λ (xs : List ℕ). map half xs ++ drop i old) (take_all i old past)
    ∙ ap (λ (xs : List ℕ). map half old ++ xs) (drop_all i old past) ∙ append-nil (map half old))
