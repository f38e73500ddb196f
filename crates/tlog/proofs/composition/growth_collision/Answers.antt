-- The old path is lifted to one under the new root, where two accepted paths with different leaf hashes are a
-- collision.
use Rattle.std.proofs.Common.{◌<◌, ◌∙◌, refl, sym, arith}
use Rattle.std.specs.Cmp.Lexicographic.{bytes_decides}
use Rattle.tlog.proofs.Composed.{lifted_included, not_kept, same_included}
use Rattle.tlog.proofs.Consistencies.{begins_layer, begins_whole, begun_end}
use Rattle.tlog.proofs.TwoWalks.{accepted_by, refused_by, same_none, unequal}
use Rattle.tlog.proofs.composition.growth_collision.Goals as goal

pub returns-then-is_err-clause-none : goal.returns-then-is_err-clause-none
returns-then-is_err-clause-none g c = (
  λ none small one two grows. absurd (refused_by _ c.verify.ensures.accepted c.is_err.ensures.value c.if-is_err.true
      (let o = grows.ordered in omega arith, one)),
  λ kept. refl,
)

pub returns-then-is_err-2-clause-none : goal.returns-then-is_err-2-clause-none
returns-then-is_err-2-clause-none g c = (
  λ none small one two grows. absurd (refused_by _ c.verify-2.ensures.accepted c.is_err-2.ensures.value
      c.if-is_err-2.true (small, two)),
  λ kept. refl,
)

pub returns-then-is_err-3-clause-none : goal.returns-then-is_err-3-clause-none
returns-then-is_err-3-clause-none g c = (
  λ none small one two grows. absurd (refused_by _ c.verify-3.ensures.accepted c.is_err-3.ensures.value
      c.if-is_err-3.true (small, grows)),
  λ kept. refl,
)

pub returns-then-eq-clause-none : goal.returns-then-eq-clause-none
returns-then-eq-clause-none g c = (
  λ none small one two grows. (bytes_decides c.args.old_leaf.now c.args.new_leaf.now).0
      (sym c.eq.ensures ∙ c.if-eq.true),
  λ kept. refl,
)

pub of_proof-requires : goal.of_proof-requires
of_proof-requires g c =
    let one = accepted_by _ c.verify.ensures.accepted c.is_err.ensures.value c.if-is_err.false in
    (omega (arith, g.met.H.LogHash.short), (omega arith, let w = one.1.within in omega arith))

pub returns-in_default-clause-none : goal.returns-in_default-clause-none
returns-in_default-clause-none g c =
    let one = accepted_by _ c.verify.ensures.accepted c.is_err.ensures.value c.if-is_err.false in
    let two = accepted_by _ c.verify-2.ensures.accepted c.is_err-2.ensures.value c.if-is_err-2.false in
    let grows = accepted_by _ c.verify-3.ensures.accepted c.is_err-3.ensures.value c.if-is_err-3.false in
    let other = unequal c.args.old_leaf.now c.args.new_leaf.now _ c.eq.ensures c.if-eq.false in
    let up = same_included one.1 c.in_default.ensures grows.1 in
    same_none c.proof_collision.result (not_kept two.0 one.1 two.1 grows.1 up other) c.proof_collision.ensures.none

pub lift-requires : goal.lift-requires
lift-requires g c =
    let one = accepted_by _ c.verify.ensures.accepted c.is_err.ensures.value c.if-is_err.false in
    let two = accepted_by _ c.verify-2.ensures.accepted c.is_err-2.ensures.value c.if-is_err-2.false in
    let grows = accepted_by _ c.verify-3.ensures.accepted c.is_err-3.ensures.value c.if-is_err-3.false in
    let w = one.1.within in
    let old = begins_whole c.in-Some.ensures (omega (arith, w)) one.0 in (
      omega arith,
      (
        omega arith,
        (
          omega (arith, g.met.H.LogHash.short),
          (
            (omega arith, begins_layer c.in-Some.ensures one.0),
            (omega (arith, w), (old, (grows.1.ordered, grows.0))),
          ),
        ),
      ),
    )

pub returns-in-Ok-clause-none : goal.returns-in-Ok-clause-none
returns-in-Ok-clause-none g c =
    let one = accepted_by _ c.verify.ensures.accepted c.is_err.ensures.value c.if-is_err.false in
    let two = accepted_by _ c.verify-2.ensures.accepted c.is_err-2.ensures.value c.if-is_err-2.false in
    let grows = accepted_by _ c.verify-3.ensures.accepted c.is_err-3.ensures.value c.if-is_err-3.false in
    let other = unequal c.args.old_leaf.now c.args.new_leaf.now _ c.eq.ensures c.if-eq.false in
    let some : 0 < c.args.old_size = let w = one.1.within in omega (arith, w) in
    let up = lifted_included one.1 grows.1.ordered c.in-Ok.ensures.lifted (begun_end c.in-Some.ensures some grows.1) in
    same_none c.proof_collision-in-Ok.result (not_kept two.0 one.1 two.1 grows.1 up other)
    (rw c.deref.ensures.value at c.proof_collision-in-Ok.ensures.none)

pub returns-in-Err-Collision-clause-none : goal.returns-in-Err-Collision-clause-none
returns-in-Err-Collision-clause-none g c =
    let one = accepted_by _ c.verify.ensures.accepted c.is_err.ensures.value c.if-is_err.false in
    let two = accepted_by _ c.verify-2.ensures.accepted c.is_err-2.ensures.value c.if-is_err-2.false in
    let grows = accepted_by _ c.verify-3.ensures.accepted c.is_err-3.ensures.value c.if-is_err-3.false in
    let other = unequal c.args.old_leaf.now c.args.new_leaf.now _ c.eq.ensures c.if-eq.false in
    (λ none. absurd cc, λ kept. absurd (other (kept two.0 one.1 two.1 grows.1)))

pub returns-in-Err-Collision-clause-collision : goal.returns-in-Err-Collision-clause-collision
returns-in-Err-Collision-clause-collision g c =
    let is = rw c.in-Err-Collision.field-0-is at c.in-Err-Collision.ensures.refused in
    rw c.in-Err-Collision.field-0-is is.2
