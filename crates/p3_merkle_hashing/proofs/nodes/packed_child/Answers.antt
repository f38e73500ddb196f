-- Each turn tells the length of one child, and each element is made of one child of each node.
use Rattle.std.proofs.Common.{arith, rules, ◌≡◌, ℕ, ◌+◌, ◌*◌, ◌<◌, ◌∙◌, [], ap, sym, length, slice_index_or}
use Rattle.std.proofs.lemmas.List.{get_or_read}
use Rattle.std.proofs.lemmas.List.FromFn.{fill_by_all}
use Rattle.p3_support.proofs.Made.{made_by, map_made}
use borrow.Author.Count.{below_more}
use Rattle.p3_merkle_hashing.proofs.LaneFacts.{child_below}
use Rattle.p3_merkle_hashing.proofs.nodes.packed_child.Goals as goal

pub loop-k-preserved : goal.loop-k-preserved
loop-k-preserved g c =
    let below = c.args.below.now in
    let k = c.loop-k.k in
    let i : ℕ = c.args.step * (c.args.first + k) + c.args.n in
    let inside : i < length below =
    child_below c.args.step c.args.first k g.PW.PackedValue.WIDTH c.args.n (length below) c.requires.child
    (omega arith) c.requires.inside in
    below_more (λ j. length (slice_index_or below (c.args.step * (c.args.first + j) + c.args.n) []) ≡ g.row.D) k
    c.loop-k.invariant
    (ap length (sym (get_or_read below i c.index-below-step.result inside c.index-below-step.is []))
    ∙ c.lemma_row.ensures)

pub returns : goal.returns
returns g c = λ k small.
    let zero = g.PW.PackedValue.default_value in
    let pick = λ (j : ℕ) (p : g.row.PW.Denot). slice_index_or (g.PW.PackedValue.lanes p) j zero in
    let below = c.args.below.now in
    let child = λ (j : ℕ). slice_index_or below (c.args.step * (c.args.first + j) + c.args.n) [] in
    let made = made_by _ _ (λ (e : ℕ) y. (j : ℕ) → j < g.PW.PackedValue.WIDTH → pick j y
    ≡ slice_index_or (child j) e zero) (λ e y q called. search rules) c.from_fn.ensures.items in
    map_made (pick k) (λ e. slice_index_or (child k) e zero) zero c.from_fn.result g.row.D c.from_fn.ensures.items.long
    (λ e d h. made e d h k small)
    ∙ sym (fill_by_all (λ e. slice_index_or (child k) e zero) (child k) g.row.D zero
    (c.loop-k.invariant k (omega arith)) (λ e h. search rules))
