-- The groups so far are the children of the nodes so far, then default digests.
use Rattle.std.proofs.Common.{arith, ◌≡◌, ℕ, ◌+◌, ◌-◌, ◌*◌, ◌<◌, ◌≤◌, List, ◌∷◌, ◌++◌, ◌∙◌, [], ap, sym, length, map}
use Rattle.std.proofs.Common.{drop, replicate, take}
use Rattle.std.proofs.lemmas.List.FromFn.{map-range_with_len_more}
use Rattle.std.specs.List.{range_with_len}
use Rattle.p3_merkle_hashing.proofs.LaneFacts.{children_inside, children_long}
use Rattle.p3_merkle_hashing.proofs.StageFacts.{made_long}
use Rattle.p3_merkle_hashing.proofs.nodes.stage_children.Goals as goal

-- the children of a node end within the layer
children_end : {X : Type 0} (below : List X) (step first end j : ℕ) → j < end - first → step * end ≤ length below →
    step * (first + j) + step ≤ length below
children_end below step first end j inside fits =
    let whole : first + (end - first) ≡ end = omega (arith, inside) in
    let all : step * (first + (end - first)) ≤ length below = rw whole fits in
    children_inside step first j (end - first) (length below) inside all

pub overflow_add-children : goal.overflow_add-children
overflow_add-children g c =
    omega (
      arith,
      children_end c.args.below.now c.args.step c.args.first c.args.end c.loop-j.j c.loop-j-test.true
          c.requires.inside,
    )

pub slice_bounds-children-end : goal.slice_bounds-children-end
slice_bounds-children-end g c =
    children_end c.args.below.now c.args.step c.args.first c.args.end c.loop-j.j c.loop-j-test.true c.requires.inside

pub loop-j-preserved : goal.loop-j-preserved
loop-j-preserved g c =
    let below = c.args.below.now in
    let step = c.args.step in
    let first = c.args.first in
    let j = c.loop-j.j in
    let w : ℕ = c.args.end - first in
    let group = λ (i : ℕ). take step (drop (step * (first + i)) below)
    ++ replicate (g.row.N - step) c.args.default_digest in
    let start : ℕ = step * (first + j) in
    let cut : start + step - start ≡ step = omega arith in
    let end : first + w ≡ c.args.end = omega (arith, c.requires.ends) in
    let fits : step * (first + w) ≤ length below = rw end c.requires.inside in
    let long = children_long below step first j w c.loop-j-test.true fits in
    let is : c.padded_group.result ≡ group j = rw cut at c.padded_group.ensures
    ∙ ap (λ n. take step (drop start below) ++ replicate (g.row.N - n) c.args.default_digest) long in
    c.in_ok-push.ensures.items ∙ ap (λ l. l ++ c.padded_group.result ∷ []) c.loop-j.invariant
    ∙ ap (λ x. map group (range_with_len 0 j) ++ x ∷ []) is
    ∙ sym (map-range_with_len_more group 0 j j (omega arith))

pub returns-clause-count : goal.returns-clause-count
returns-clause-count g c =
    made_long (λ (j : ℕ). take c.args.step (drop (c.args.step * (c.args.first + j)) c.args.below.now)
    ++ replicate (g.row.N - c.args.step) c.args.default_digest) c.loop-j.j c.loop-j.groups.items c.loop-j.invariant
    ∙ omega arith
