-- The children so far have their digests: the first `known` of those that are covered, and as many of the proof as the
-- others are (`walked`).
use Rattle.std.proofs.Common.{◌≡◌, ◌+◌, ◌-◌, ◌*◌, ◌/◌, ◌%◌, ◌<◌, ◌∙◌, ap, sym, arith, get_or, length, refl}
use Rattle.std.specs.declared.vec.Vec.{Vec}
use Rattle.p3_merkle_core.specs.Inner.Children.{children_under}
use Rattle.p3_merkle_core.proofs.pruning.children_of.Goals.{then-known-covered+then-covered-known, else-known-covered}
use Rattle.p3_merkle_core.proofs.pruning.children_of.Goals.{else-known-covered-via-then-known-covered+else-covered-known}
use Rattle.p3_merkle_core.proofs.pruning.children_of.Goals.{else-known-covered-via-else-known-covered}
use Rattle.p3_merkle_core.proofs.pruning.children_of.Given.{Over}
use Rattle.p3_merkle_core.proofs.Covered.ChildFacts.{IsSent, walk_start, walk_end, known_more, unknown_more, is_sent}
use Rattle.p3_merkle_core.proofs.Covered.ChildFacts.{none_next, placed_at}
use Rattle.p3_merkle_core.proofs.pruning.children_of.Goals as goal

pub loop-parent-init : goal.loop-parent-init
loop-parent-init g c =
    let none : c.args.step * 0 ≡ 0 = omega arith in
    record {
      walked = rw none (walk_start c.args.covered.now (children_under c.args.step c.args.parents.now)
          c.args.digests.now c.args.proof_digests.now c.in_ok-children.children.items c.in_ok-children.ensures.items);
      capacity = c.in_ok-children.ensures.exact;
    }

pub overflow_mul-first : goal.overflow_mul-first
overflow_mul-first g c = omega (arith, c.requires.low c.loop-parent.parent-index 0 c.loop-parent-test.true)

pub overflow_add-child-end : goal.overflow_add-child-end
overflow_add-child-end g c = omega (arith, c.requires.low c.loop-parent.parent-index 0 c.loop-parent-test.true)

pub offset_bounds-digests-known : goal.offset_bounds-digests-known
offset_bounds-digests-known g c = omega (arith, c.requires.one_each, c.if-known-covered.true)

pub bounds-digests-known : goal.bounds-digests-known
bounds-digests-known g c = rw c.requires.one_each c.if-known-covered.true

-- a digest is left for a child that is not covered
left : (g : Over) (c : goal.After-len g) → IsSent c.len.result c.loop-child.known (length c.args.proof_digests.now)
left g c =
    let n = c.args.step in
    let i = c.loop-parent.parent-index in
    let first = n * get_or c.args.parents.now i 0 in
    let at = placed_at n i c.args.parents.now first c.loop-child.child refl c.loop-parent-test.true
    c.loop-child.auto.child c.loop-child-test.true in
    let long : c.len.result ≡ n * i + (c.loop-child.child - first) =
    omega (arith, c.loop-child.invariant.walked.each) in
    rw long (is_sent n c.args.parents.now c.args.covered.now c.args.digests.now c.args.proof_digests.now c.requires
    (n * i + (c.loop-child.child - first)) c.loop-child.known c.loop-child.children.items at.inside
    c.loop-child.invariant.walked
    (λ h e. elim c.else-known-covered.branch [
      | else-known-covered-via-then-known-covered+else-covered-known w ↦
          w.if-covered-known.false (e ∙ sym at.child_is)
      | else-known-covered-via-else-known-covered w ↦ none_next c.loop-child.known (length c.args.covered.now)
          w.if-known-covered.false h
    ]))

pub overflow_sub-len : goal.overflow_sub-len
overflow_sub-len g c = (left g c).behind

pub offset_bounds-proof_digests-len : goal.offset_bounds-proof_digests-len
offset_bounds-proof_digests-len g c = (left g c).within

pub bounds-proof_digests-len : goal.bounds-proof_digests-len
bounds-proof_digests-len g c = (left g c).below

pub loop-child-preserved : goal.loop-child-preserved
loop-child-preserved g c =
    let n = c.args.step in
    let i = c.loop-parent.parent-index in
    let first = n * get_or c.args.parents.now i 0 in
    let at = placed_at n i c.args.parents.now first c.loop-child.child refl c.loop-parent-test.true
    c.loop-child.auto.child c.loop-child-test.true in
    let place = n * i + (c.loop-child.child - first) in
    let next : n * i + (c.loop-child.child + 1 - first) ≡ place + 1 = omega arith in
    record {
      walked = rw next (elim c.if-known-covered.branch [
        | then-known-covered+then-covered-known w ↦
            known_more n c.args.parents.now c.args.covered.now c.args.digests.now c.args.proof_digests.now c.requires
            place c.loop-child.known c.loop-child.children.items at.inside c.loop-child.invariant.walked
            w.if-known-covered.true (w.if-covered-known.true ∙ at.child_is) w.index-digests-known.result
            c.if-known-covered.known c.if-known-covered.children.items
            w.index-digests-known.is w.known-is (ap (λ v. v.items) w.children-is ∙ w.push_reserved.ensures.items)
        | else-known-covered w ↦
            let other : c.loop-child.known < length c.args.covered.now → get_or c.args.covered.now c.loop-child.known 0
            ≡ n * get_or c.args.parents.now (place / n) 0 + place % n → ⊥ =
            λ h e. elim w.else-known-covered.branch [
              | else-known-covered-via-then-known-covered+else-covered-known v ↦
                  v.if-covered-known.false (e ∙ sym at.child_is)
              | else-known-covered-via-else-known-covered v ↦ none_next c.loop-child.known (length c.args.covered.now)
                  v.if-known-covered.false h
            ] in
            let long : w.len.result ≡ place = omega (arith, c.loop-child.invariant.walked.each) in
            let read = rw long at w.index-proof_digests-len.is in
            unknown_more n c.args.parents.now c.args.covered.now c.args.digests.now c.args.proof_digests.now c.requires
            place c.loop-child.known c.loop-child.children.items at.inside c.loop-child.invariant.walked
            other w.index-proof_digests-len.result c.if-known-covered.known c.if-known-covered.children.items
            read w.known-is (ap (λ v. v.items) w.children-is ∙ w.push_reserved-else-known-covered.ensures.items)
      ]);
      capacity = elim c.if-known-covered.branch [
        | then-known-covered+then-covered-known w ↦
            ap (λ (v : Vec _ _). v.cap) w.children-is ∙ w.push_reserved.ensures.capacity
            ∙ c.loop-child.invariant.capacity
        | else-known-covered w ↦
            ap (λ (v : Vec _ _). v.cap) w.children-is ∙ w.push_reserved-else-known-covered.ensures.capacity
            ∙ c.loop-child.invariant.capacity
      ];
    }

pub returns : goal.returns
returns g c =
    let n = c.args.step in
    let all : c.loop-parent.parent-index ≡ length c.args.parents.now = omega arith in
    let whole : n * c.loop-parent.parent-index ≡ n * length c.args.parents.now = ap (λ k. n * k) all in
    walk_end n c.args.parents.now c.args.covered.now c.args.digests.now c.args.proof_digests.now c.requires
    (n * c.loop-parent.parent-index) c.loop-parent.known c.loop-parent.children.items
    (omega (arith, whole)) (omega (arith, whole)) c.loop-parent.invariant.walked
