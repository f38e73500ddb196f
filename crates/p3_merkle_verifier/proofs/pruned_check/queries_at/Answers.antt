-- The queries so far stand under the nodes of the leaves so far, one under each (`under`).
use Rattle.std.proofs.Common.{◌≡◌, ◌∙◌, ℕ, ◌+◌, ◌-◌, ◌/◌, ◌^◌, ◌<◌, ◌++◌, ◌∷◌, [], List, arith, ap, eqb, sym, get_or}
use Rattle.std.proofs.Common.{inl, inr, length, map, refl}
use Rattle.std.proofs.lemmas.List.{get_or_default, length-map, take_all}
use Rattle.std.proofs.lemmas.List.Elements.{All-push}
use Rattle.std.specs.List.{dedup}
use Rattle.std.specs.declared.vec.Vec.{Vec}
use Rattle.p3_support.specs.Batches.{greatest}
use Rattle.p3_merkle_core.specs.Geometry.{heights}
use Rattle.p3_merkle_core.proofs.Shapes.LeastFacts.{exponent_le}
use Rattle.p3_merkle_core.proofs.Shapes.StepFacts.{layer_start}
use Rattle.p3_merkle_verifier.specs.Inner.RestoredLevels.{node_of_query, tree_of}
use Rattle.p3_merkle_verifier.proofs.ChildFacts.{leaf_queries, leaves_known, queries_known}
use Rattle.p3_merkle_verifier.proofs.ParentFacts.{queries_next}
use Rattle.p3_merkle_verifier.proofs.pruned_check.queries_at.Goals as goal
use Rattle.p3_merkle_verifier.proofs.pruned_check.queries_at.Goals.{then-slot-eq0, then-slot-eq0-via-then-slot-eq0}
use Rattle.p3_merkle_verifier.proofs.pruned_check.queries_at.Goals.{then-slot-eq0-via-else-slot-eq0+then-previous-node}
use Rattle.p3_merkle_verifier.proofs.pruned_check.queries_at.Goals.{else-slot-eq0+else-previous-node}

pub overflow_shr-node : goal.overflow_shr-node
overflow_shr-node g c =
    let s = tree_of c.args.restorable.now in
    omega (
      arith,
      c.args.restorable.now.schedule.now.walked.leaves,
      layer_start s,
      exponent_le (greatest (heights s)) 62 c.args.restorable.now.low,
    )

pub loop-slot-preserved : goal.loop-slot-preserved
loop-slot-preserved g c =
    let restorable = c.args.restorable.now in
    let s = tree_of restorable in
    let indices = restorable.opening.indices.now in
    let node = node_of_query s indices 0 in
    let leaves = restorable.leaves.indices.items in
    let firsts = restorable.leaves.first_queries.items in
    let i = c.loop-slot.slot in
    let step = 2 ^ c.saturating_sub-bits.result in
    let so_far = c.loop-slot.invariant in
    let are = leaf_queries s indices restorable.leaves restorable.distinct in
    let pairs : length firsts ≡ length leaves = sym (ap length are ∙ length-map firsts node) in
    let inside : i < length leaves = omega arith in
    let here : c.index.result.now / step ≡ get_or leaves i 0 / step =
    ap (λ n. n / step) (c.index.ensures ∙ get_or_default leaves i c.index.result.now 0 inside) in
    let next = λ (queries : List ℕ). queries_next leaves firsts c.loop-slot.queries.items queries step i node
    (omega (arith, pairs)) pairs are so_far.under in
    let known = leaves_known s indices restorable.cap_layer restorable.queried restorable.leaves restorable.distinct in
    record {
      under = elim c.if-slot-eq0.branch [
        | then-slot-eq0 w ↦
            let first = w.index-then-slot-eq0.ensures
            ∙ get_or_default firsts i w.index-then-slot-eq0.result.now 0 (omega (arith, pairs)) in
            next c.if-slot-eq0.queries.items (inl (
              ap (λ (v : Vec _ _). v.items) w.queries-is ∙ w.push_reserved.ensures.items
                  ∙ ap (λ k. c.loop-slot.queries.items ++ k ∷ []) first,
              elim w.then-slot-eq0.branch [
                | then-slot-eq0-via-then-slot-eq0 v ↦ λ p e. absurd (omega arith)
                | then-slot-eq0-via-else-slot-eq0+then-previous-node v ↦ λ p e.
                    v.if-previous-node.true (so_far.before p ∙ e ∙ sym here)
              ],
            ))
        | else-slot-eq0+else-previous-node w ↦
            let some : 0 < i = omega arith in
            next c.if-slot-eq0.queries.items (inr (
              ap (λ (v : Vec _ _). v.items) w.queries-is,
              some,
              sym (so_far.before some) ∙ w.if-previous-node.false ∙ here,
            ))
      ];
      among = elim c.if-slot-eq0.branch [
        | then-slot-eq0 w ↦
            let first = w.index-then-slot-eq0.ensures
            ∙ get_or_default firsts i w.index-then-slot-eq0.result.now 0 (omega (arith, pairs)) in
            rw (w.queries-is, w.push_reserved.ensures.items, first)
            (All-push (λ k. k < length indices) c.loop-slot.queries.items (get_or firsts i 0) so_far.among
            (known.among i 0 (omega (arith, pairs))))
        | else-slot-eq0+else-previous-node w ↦ rw w.queries-is so_far.among
      ];
      before = λ p. let back : i + 1 - 1 ≡ i = omega arith in rw back here;
      capacity = elim c.if-slot-eq0.branch [
        | then-slot-eq0 w ↦ rw w.queries-is (
          omega (arith, w.push_reserved.ensures.len, so_far.capacity.0),
          w.push_reserved.ensures.capacity ∙ so_far.capacity.1,
        )
        | else-slot-eq0+else-previous-node w ↦ rw w.queries-is (omega (arith, so_far.capacity.0), so_far.capacity.1)
      ];
    }

pub returns-clause-queries : goal.returns-clause-queries
returns-clause-queries g c l h at =
    let restorable = c.args.restorable.now in
    let s = tree_of restorable in
    let indices = restorable.opening.indices.now in
    let bits = c.saturating_sub-bits.result in
    let leaves = restorable.leaves.indices.items in
    let half = λ (j : ℕ). j / 2 ^ bits in
    let all = take_all c.loop-slot.slot (map half leaves) (omega (arith, length-map leaves half)) in
    queries_known s indices restorable.cap_layer restorable.queried l bits h
    (c.saturating_sub-bits.ensures ∙ rw (at, restorable.schedule.now.walked.leaves, layer_start s) refl)
    c.loop-slot.queries.items
    c.loop-slot.invariant.among
    (c.loop-slot.invariant.under ∙ ap (dedup eqb) all
    ∙ ap (λ xs. dedup eqb (map half xs)) restorable.distinct.indices)
