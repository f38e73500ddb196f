-- The blocks are those of the padded inputs of all eight entries.
use Rattle.std.proofs.Common.{◌∙◌, ◌≡◌, ℕ, List, Bor, ap, arith, get_or, map}
use Rattle.std.specs.List.{flat_map}
use Rattle.std.proofs.lemmas.List.{take_all}
use Rattle.tlog_tree.proofs.Leaves.{leaf_input, length-eight, padded_at, padded_input}
use Rattle.tlog_tree.proofs.leaf.hash_eight.Goals.{After-deref}
use Rattle.tlog_tree.proofs.leaf.hash_eight.Goals as goal

abbrev entries_of : List (Bor (List ℕ)) → List (List ℕ)
entries_of entries = map (λ (entry : Bor (List ℕ)). entry.now) entries

-- the blocks once the loop has ended
all_padded : (c : After-deref) → c.deref.result.now
    ≡ flat_map (λ x. x) (map (padded_input (entries_of c.args.entries.now)) c.args.places.now)
all_padded c = c.deref.ensures.value ∙ c.loop-index.invariant
    ∙ ap (λ (places : List (ℕ × ℕ)). flat_map (λ x. x) (map (padded_input (entries_of c.args.entries.now)) places))
    (take_all c.loop-index.index-index c.args.places.now (omega (arith, c.loop-index-test.false)))

pub hash_padded_eight-requires : goal.hash_padded_eight-requires
hash_padded_eight-requires c =
    length-eight (entries_of c.args.entries.now) c.args.count c.args.places.now c.deref.result.now c.requires.eight
    c.requires.own c.requires.alike (all_padded (goal.at.hash_padded_eight-requires c).After-deref)

pub returns : goal.returns
returns c = λ k d h.
    let entries = entries_of c.args.entries.now in
    let eight = c.args.places.now in
    c.hash_padded_eight.ensures k (leaf_input entries (get_or eight k d)) (omega (arith, c.requires.eight))
    (padded_at entries c.args.count eight c.deref.result.now c.requires.own c.requires.alike
    (all_padded (goal.at.returns c).After-deref) k d h)
