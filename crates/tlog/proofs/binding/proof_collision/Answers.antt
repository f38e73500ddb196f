-- Each turn compares the children of one node on both paths, which are the same from the node up where no collision is
-- found.
use Rattle.std.proofs.Common.{refl, sym, ◌∙◌, arith}
use Rattle.tlog.proofs.TwoWalks.{at_root, left_shift, other_more, step_left, step_right}
use Rattle.tlog.proofs.binding.proof_collision.Goals as goal
use Rattle.tlog.proofs.binding.proof_collision.Goals.{then-sibling_is_left, else-sibling_is_left}

pub offset_bounds-other_proof-i : goal.offset_bounds-other_proof-i
offset_bounds-other_proof-i g c =
    let more = (other_more c.loop-i.invariant c.loop-i-test.true).1 in omega arith

pub bounds-other_proof-i : goal.bounds-other_proof-i
bounds-other_proof-i g c = (other_more c.loop-i.invariant c.loop-i-test.true).1

pub overflow_shr-node : goal.overflow_shr-node
overflow_shr-node g c =
    left_shift c.loop-i.node c.loop-i.last (omega (arith, c.loop-i.auto.node-fits))
    (other_more c.loop-i.invariant c.loop-i-test.true).0 (sym c.sibling_is_left.ensures
    ∙ c.if-sibling_is_left.true)

pub overflow_shr-last : goal.overflow_shr-last
overflow_shr-last g c =
    left_shift c.loop-i.node c.loop-i.last (omega (arith, c.loop-i.auto.node-fits))
    (other_more c.loop-i.invariant c.loop-i-test.true).0 (sym c.sibling_is_left.ensures
    ∙ c.if-sibling_is_left.true)

pub loop-i-preserved : goal.loop-i-preserved
loop-i-preserved g c =
    let fixed = c.in_ok-found.ensures.none.0 (rw c.in_default.is refl) in
    rw (c.node_hash-value.ensures, c.node_hash-other.ensures) (elim c.if-sibling_is_left.branch [
      | then-sibling_is_left w ↦
          rw (w.node-is, w.last-is, w.left-is, w.right-is, w.other_left-is, w.other_right-is)
          (step_left c.loop-i.invariant _ _ c.loop-i-test.true c.index-proof-i.is c.index-other_proof-i.is
          (sym c.sibling_is_left.ensures ∙ w.if-sibling_is_left.true)
          (rw (w.left-is, w.right-is, w.other_left-is, w.other_right-is) at fixed))
      | else-sibling_is_left w ↦
          rw (w.node-is, w.last-is, w.left-is, w.right-is, w.other_left-is, w.other_right-is)
          (step_right c.loop-i.invariant _ _ c.loop-i-test.true c.index-proof-i.is c.index-other_proof-i.is
          (sym c.sibling_is_left.ensures ∙ w.if-sibling_is_left.false)
          (rw (w.left-is, w.right-is, w.other_left-is, w.other_right-is) at fixed))
    ])

pub returns-clause-none : goal.returns-clause-none
returns-clause-none g c = (
  λ none small is other. at_root c.loop-i.invariant c.loop-i-test.false,
  λ fixed. refl,
)
