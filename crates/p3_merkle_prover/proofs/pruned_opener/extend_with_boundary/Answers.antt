-- The digests so far are those of the boundary below `next` (`so_far`), where the groups of the covered nodes so far
-- end (`gone`).
use Rattle.std.proofs.Common.{◌+◌, ◌-◌, ◌%◌, ◌≤◌, ◌++◌, ◌∙◌, ap, arith, sym, append-nil, get_or, length, refl}
use Rattle.p3_merkle_prover.proofs.BoundaryFacts.{EndsAt, gone_start, others_end, others_without, turned}
use Rattle.p3_merkle_prover.proofs.pruned_opener.extend_with_boundary.Goals as goal
use Rattle.p3_merkle_prover.proofs.pruned_opener.extend_with_boundary.Goals.{then-place-covered, else-place-covered}

pub loop-place-init : goal.loop-place-init
loop-place-init g c = record {
  gone = gone_start c.args.covered.now c.args.step;
  inside = omega arith;
  so_far = λ d. sym (append-nil c.args.digests.now.items);
}

pub loop-place-preserved : goal.loop-place-preserved
loop-place-preserved g c =
    let covered = c.args.covered.now in
    let layer = c.args.layer.now in
    let n = c.args.step in
    let place = c.loop-place.place in
    let next = c.loop-place.next in
    let node = get_or covered place 0 in
    let end = c.if-place-covered.end in
    let ends : EndsAt covered (place + 1) (node - node % n + n) end = elim c.if-place-covered.branch [
      | then-place-covered w ↦ record {
        next = λ h. rw c.position_of.ensures at (w.end-is ∙ w.min-end.ensures);
        last = λ h. absurd (omega arith);
      }
      | else-place-covered w ↦ record {
        next = λ h. absurd (omega arith);
        last = λ h. rw c.position_of.ensures at w.end-is;
      }
    ] in
    let w = turned covered n place next c.max-start.result node end c.requires.some c.requires.ascending (omega arith)
    c.loop-place.invariant.gone refl (rw c.position_of.ensures at c.max-start.ensures)
    ends in
    let inside : end ≤ length layer = omega (arith, w.fits, c.requires.groups place 0 (omega arith)) in
    record {
      gone = w.gone;
      inside = inside;
      so_far = λ d.
          others_without layer covered n place next c.max-start.result node end c.args.digests.now.items
          c.loop-place.digests.items c.append_siblings.new.digests.items d w inside
          (c.loop-place.invariant.so_far d) c.in_ok-append_siblings.ensures;
    }

pub returns-clause-digests : goal.returns-clause-digests
returns-clause-digests g c d =
    c.loop-place.invariant.so_far d ∙ ap (λ ys. c.args.digests.now.items ++ ys)
    (sym (others_end c.args.layer.now c.args.covered.now c.args.step c.loop-place.place c.loop-place.next d
    (omega arith) c.loop-place.invariant.inside c.loop-place.invariant.gone))
