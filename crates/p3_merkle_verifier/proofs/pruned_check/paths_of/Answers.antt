-- The paths out of the layers are the restored ones; each leaf whose first query is still to come has its own (`left`),
-- and each query so far has that of its leaf (`shown`).
use Rattle.std.proofs.Common.{◌≡◌, ◌∙◌, ◌<◌, ◌≤◌, ℕ, List, ap, arith, rules, get_or, inl, inr, length, map, refl, sym}
use Rattle.std.proofs.Common.{take, true}
use Rattle.std.proofs.lemmas.Bool.{cases_lt}
use Rattle.std.proofs.lemmas.List.{get_or-map, get_or-set_other, get_or-take, get_or_default, length-map, length-set}
use Rattle.std.proofs.lemmas.List.{length-take-le, take_all}
use Rattle.p3_support.specs.Lists.{is_among}
use Rattle.p3_merkle_core.specs.Inner.Agreement.{distinct, first_query, IsSlot}
use Rattle.p3_merkle_core.specs.Inner.Children.{levels_in, siblings_on_path, paths_out_of}
use Rattle.p3_merkle_core.specs.Views.{shown_path}
use Rattle.p3_merkle_core.proofs.Covered.CoveredFacts.{covered_leaf, covered_listed}
use Rattle.p3_merkle_core.proofs.Pruned.LeadFacts.{first_before, first_there}
use Rattle.p3_merkle_core.proofs.Pruned.SlotFacts.{distinct_queried, queried_at}
use Rattle.p3_merkle_core.proofs.Pruned.SortedFacts.{slot_read}
use Rattle.p3_merkle_core.proofs.Covered.KeptFacts.{view_more, view_at, paths_restored}
use Rattle.p3_merkle_verifier.specs.Inner.RestoredLevels.{opened_by, tree_of}
use Rattle.p3_merkle_verifier.proofs.LayerFacts.{covers}
use Rattle.p3_merkle_verifier.proofs.pruned_check.paths_of.Goals.{then-query-first, else-query-first+in_ok-siblings}
use Rattle.p3_merkle_verifier.proofs.pruned_check.paths_of.Goals as goal

pub siblings_on_path-requires-clause-covered : goal.siblings_on_path-requires-clause-covered
siblings_on_path-requires-clause-covered g c x =
    let restorable = c.args.restorable.now in
    let s = tree_of restorable in
    let indices = restorable.opening.indices.now in
    let k = c.loop-leaf.leaf-index in
    let leaf = get_or c.deref-leaf-items.result.now k 0 in
    let are = c.deref-leaf-items.ensures.value ∙ restorable.distinct.indices in
    let asked : is_among indices leaf ≡ true =
    rw are (distinct_queried indices k (omega (arith, c.loop-leaf-test.true, ap length are))) in
    rw (covers (c.requires.leaves x).coverage).nodes_are
    (covered_listed s indices restorable.cap_layer restorable.queried 0 leaf (omega arith)
    (covered_leaf s indices leaf ∙ asked))

pub loop-leaf-preserved : goal.loop-leaf-preserved
loop-leaf-preserved g c =
    let k = c.loop-leaf.leaf-index in
    let so_far = c.loop-leaf.invariant in
    record {
      places = so_far.places;
      paths = view_more (λ path. path.items) (siblings_on_path
          (levels_in c.args.layers.now)) c.deref-leaf-items.result.now k
          c.loop-leaf.of_leaves.items c.push_reserved.new.self.items c.in_ok-siblings_on_path.field-0
          c.loop-leaf-test.true
          so_far.paths c.push_reserved.ensures.items c.in_ok-siblings_on_path.ensures;
      count = omega (arith, c.push_reserved.ensures.len, so_far.count);
      capacity = omega (arith, c.push_reserved.ensures.capacity, so_far.capacity);
    }

-- the first query of a leaf, as the code reads it
first_read : (firsts indices : List ℕ) (i k f : ℕ) → firsts ≡ map (first_query indices) (distinct indices) →
    IsSlot indices i k → f ≡ get_or firsts k f → f ≡ get_or firsts k 0
first_read firsts indices i k f is w e =
    e ∙ get_or_default firsts k f 0
    (omega (arith, w.place, ap length is, length-map (distinct indices) (first_query indices)))

first_of_leaf : (firsts indices : List ℕ) (i k : ℕ) → firsts ≡ map (first_query indices) (distinct indices) →
    IsSlot indices i k → get_or firsts k 0 ≡ first_query indices i
first_of_leaf firsts indices i k is w =
    rw (← is, w.there) at (get_or-map (first_query indices) (distinct indices) k 0 0 w.place)

first_low : (xs : List ℕ) (k : ℕ) → first_query xs (get_or xs k 0) ≤ k
first_low xs k =
    elim (cases_lt k (first_query xs (get_or xs k 0))) [
      | inl low ↦ absurd (first_before xs (get_or xs k 0) k low refl)
      | inr high ↦ high
    ]

pub index-requires : goal.index-requires
index-requires g c =
    let restorable = c.args.restorable.now in
    let k = c.loop-query.query in
    let indices = restorable.opening.indices.now in
    let firsts = restorable.leaves.first_queries.items in
    let at = c.index-slot.result.now in
    let slot = slot_read restorable.leaves.slots.items indices k at restorable.distinct.slots c.loop-query-test.true
    c.index-slot.ensures in
    let read = first_read firsts indices (get_or indices k 0) at c.index-first.result.now
    restorable.distinct.first_queries slot c.index-first.ensures in
    let first = first_of_leaf firsts indices (get_or indices k 0) at restorable.distinct.first_queries slot in
    omega (arith, read, first, first_low indices k, c.if-query-first.false, c.loop-query.invariant.count)

pub loop-query-init : goal.loop-query-init
loop-query-init g c =
    let restorable = c.args.restorable.now in
    let path = siblings_on_path (levels_in c.args.layers.now) in
    let leaves = c.deref-leaf-items.result.now in
    let are = c.deref-leaf-items.ensures.value ∙ restorable.distinct.indices in
    let all = c.loop-leaf.invariant.paths ∙ ap (map path) (take_all c.loop-leaf.leaf-index leaves (omega arith)) in
    let same : length c.loop-leaf.of_leaves.items ≡ length leaves =
    sym (length-map c.loop-leaf.of_leaves.items (λ path. path.items)) ∙ ap length all ∙ length-map leaves path in
    record {
      shown = search rules;
      count = search rules;
      capacity = search rules;
      leaves = same ∙ ap length are;
      left = λ s x inside past is. view_at (λ path. path.items) path leaves c.loop-leaf.of_leaves.items s x
          (omega (arith, same, inside)) all is
          ∙ ap (λ xs. path (get_or xs s 0)) are;
    }

pub loop-query-preserved : goal.loop-query-preserved
loop-query-preserved g c =
    let restorable = c.args.restorable.now in
    let k = c.loop-query.query in
    let indices = restorable.opening.indices.now in
    let path = siblings_on_path (levels_in c.args.layers.now) in
    let slot = slot_read restorable.leaves.slots.items indices k c.index-slot.result.now restorable.distinct.slots
    c.loop-query-test.true c.index-slot.ensures in
    let firsts = restorable.leaves.first_queries.items in
    let leaves = c.loop-query.of_leaves.items in
    let at = c.index-slot.result.now in
    let read : c.index-first.result.now ≡ get_or firsts at 0 =
    first_read firsts indices (get_or indices k 0) at c.index-first.result.now restorable.distinct.first_queries slot
    c.index-first.ensures in
    let first : c.index-first.result.now ≡ first_query indices (get_or indices k 0) =
    read ∙ first_of_leaf firsts indices (get_or indices k 0) at restorable.distinct.first_queries slot in
    let low : c.index-first.result.now ≤ k = omega (arith, first, first_low indices k) in
    let so_far = c.loop-query.invariant in
    let taken : shown_path (record { leaf_index = get_or indices k 0; siblings = c.if-query-first.siblings })
    ≡ (get_or indices k 0, path (get_or indices k 0)) = elim c.if-query-first.branch [
      | then-query-first w ↦
          let found = so_far.left at w.index_mut.result.now (omega (arith, slot.place, so_far.leaves))
          (omega (arith, read, w.if-query-first.true)) w.index_mut.ensures.value in
          rw w.siblings-is (ap (λ v. (get_or indices k 0, v))
          (ap (λ v. v.items) w.replace-siblings.ensures.value ∙ found ∙ ap path slot.there))
      | else-query-first+in_ok-siblings w ↦
          let p = w.index.result.now in
          let lower : c.index-first.result.now < k = omega (arith, low, w.if-query-first.false) in
          let there : get_or (take k indices) c.index-first.result.now 0 ≡ get_or indices k 0 =
          get_or-take k indices c.index-first.result.now 0 lower ∙ ap (λ i. get_or indices i 0) first
          ∙ first_there indices (get_or indices k 0) (queried_at indices k c.loop-query-test.true) in
          let view = view_at shown_path (λ i. (i, path i)) (take k indices) c.loop-query.paths.items
          c.index-first.result.now p
          (omega (arith, lower, length-take-le k indices (omega (arith, c.loop-query-test.true)))) so_far.shown
          w.index.ensures in
          rw w.siblings-is (ap (λ v. (get_or indices k 0, v))
          (w.in_ok-siblings.ensures.items ∙ w.deref.ensures.value ∙ ap (λ v. v.1) view ∙ ap path there))
    ] in
    record {
      shown = view_more shown_path (λ i. (i, path i)) indices k c.loop-query.paths.items
          c.push_reserved-in-loop-query.new.self.items
          (record { leaf_index = get_or indices k 0; siblings = c.if-query-first.siblings })
          c.loop-query-test.true so_far.shown c.push_reserved-in-loop-query.ensures.items taken;
      count = omega (arith, c.push_reserved-in-loop-query.ensures.len, so_far.count);
      capacity = omega (arith, c.push_reserved-in-loop-query.ensures.capacity, so_far.capacity);
      leaves = elim c.if-query-first.branch [
        | then-query-first w ↦ rw w.of_leaves-is
            (length-set leaves at w.replace-siblings.new.dest ∙ so_far.leaves)
        | else-query-first+in_ok-siblings w ↦ rw w.of_leaves-is so_far.leaves
      ];
      left = elim c.if-query-first.branch [
        | then-query-first w ↦ rw w.of_leaves-is (λ s x inside past is.
            so_far.left s x (omega (arith, inside, length-set leaves at w.replace-siblings.new.dest)) (omega
            (arith, past))
            (is ∙ get_or-set_other leaves at s w.replace-siblings.new.dest x
            (λ same. omega (arith, past, ap (λ i. get_or firsts i 0) same, read, w.if-query-first.true))))
        | else-query-first+in_ok-siblings w ↦ rw w.of_leaves-is
            (λ s x inside past is. so_far.left s x inside (omega (arith, past)) is)
      ];
    }

pub returns : goal.returns
returns g c =
    let restorable = c.args.restorable.now in
    let indices = restorable.opening.indices.now in
    let levels = levels_in c.args.layers.now in
    λ f layers. c.loop-query.invariant.shown
    ∙ ap (paths_out_of levels) (take_all c.loop-query.query indices (omega arith))
    ∙ paths_restored f (tree_of restorable) restorable.cap_layer (opened_by restorable) restorable.queried levels
    layers.levels_are
