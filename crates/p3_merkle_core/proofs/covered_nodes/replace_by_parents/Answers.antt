-- The parents ascend, and repeats are dropped.
use Rattle.std.proofs.Common.{◌≡◌, ◌+◌, ℕ, ◌/◌, ◌++◌, ◌∷◌, ◌∙◌, ◌≤◌, [], List, ap, arith, drop, length, map, eqb, sym}
use Rattle.std.proofs.Common.{take}
use Rattle.std.proofs.lemmas.List.{drop_all, length-set, nil_from_length, take_more, with_items_is}
use Rattle.std.proofs.lemmas.Bool.{eqb-false, eqb-true}
use Rattle.std.specs.List.{dedup}
use Rattle.std.specs.Vec.{vec_len}
use Rattle.p3_merkle_core.proofs.Pruned.SlotFacts.{parents_once}
use Rattle.p3_merkle_core.proofs.covered_nodes.replace_by_parents.Goals as goal

pub returns-then-is_empty : goal.returns-then-is_empty
returns-then-is_empty c up =
    let items = c.args.covered.now.items in
    let long : vec_len c.args.covered.now ≡ 0 = eqb-true (vec_len c.args.covered.now) 0
    (sym c.is_empty.ensures ∙ c.if-is_empty.true) in
    let empty : items ≡ [] = nil_from_length items (omega arith) in
    empty ∙ ap (λ (xs : List ℕ). dedup eqb (map (λ j. j / c.args.step) xs)) (sym empty)
    ∙ parents_once items c.args.step c.requires up

pub returns : goal.returns
returns c up =
    let f = λ (j : ℕ). j / c.args.step in
    let nodes = c.loop-place.nodes in
    let kept = c.loop-place.kept in
    let long : length nodes ≡ c.args.covered.now.len =
    omega (
      arith,
      c.loop-place.auto.nodes,
      c.as_mut_slice-nodes.ensures.len,
      length-set c.as_mut_slice-nodes.result.now 0 c.parent_of-last.result,
    ) in
    let past : length nodes ≤ c.loop-place.place = omega (arith, c.loop-place.auto.nodes, c.loop-place-test.false) in
    let all : drop c.loop-place.place nodes ≡ [] = drop_all c.loop-place.place nodes past in
    c.truncate.ensures.items ∙ ap (take (kept + 1)) (with_items_is c.args.covered.now nodes long)
    ∙ take_more nodes kept 0 (omega (
      arith,
      c.loop-place.invariant.behind,
      long,
      length-set
          c.as_mut_slice-nodes.result.now 0 c.parent_of-last.result,
      eqb-false (vec_len c.args.covered.now) 0
          (sym c.is_empty.ensures ∙ c.if-is_empty.false),
    ))
    ∙ ap (λ (y : ℕ). take kept nodes ++ y ∷ []) c.loop-place.invariant.last
    ∙ (rw all at c.loop-place.invariant.left)
    ∙ parents_once c.args.covered.now.items c.args.step c.requires up
