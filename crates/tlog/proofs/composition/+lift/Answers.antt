-- The recursion goes to the half of the new tree in which the old one ends.
use Rattle.std.proofs.Common.{rules, arith}
use Rattle.std.proofs.lemmas.Result.{IfOk-weaker}
use Rattle.tlog.proofs.Lifts.{across, lift_beside_left, lift_growth_refused, lift_left}
use Rattle.tlog.proofs.Lifts.{lift_no_digests, lift_no_growth, lift_right, lift_same}
use Rattle.tlog.proofs.composition.+lift.Goals as goal

pub returns-then-size-new_size-clause-lifted : goal.returns-then-size-new_size-clause-lifted
returns-then-size-new_size-clause-lifted g t c =
    rw c.in_ok-from_slice.ensures.items (lift_same c.if-size-new_size.true c.requires.last)

pub returns-in_default-clause-lifted : goal.returns-in_default-clause-lifted
returns-in_default-clause-lifted g t c =
    lift_no_growth c.requires.last (omega arith) c.in_default.ensures.cases

pub returns-then-size-middle-clause-lifted : goal.returns-then-size-middle-clause-lifted
returns-then-size-middle-clause-lifted g t c =
    let e = c.split-middle.ensures.value in
    rw c.in_ok-push.ensures.items (lift_left _ _ _ c.requires.whole c.requires.last (omega arith) c.requires.limit
    (rw e at c.if-size-middle.true) c.in-Some.ensures.cases.0 (rw e at c.in_ok-digests.ensures.lifted))

pub returns-in_default-split_last-clause-lifted : goal.returns-in_default-split_last-clause-lifted
returns-in_default-split_last-clause-lifted g t c =
    let e = c.split-middle.ensures.value in
    lift_no_digests c.requires.whole c.requires.last (omega arith) (omega (arith, e)) c.requires.limit
    c.in_default-split_last.ensures.cases

pub returns-in_default-roots-clause-lifted : goal.returns-in_default-roots-clause-lifted
returns-in_default-roots-clause-lifted g t c =
    let e = c.split-middle.ensures.value in
    lift_growth_refused c.requires.whole c.requires.last (omega arith) (omega (arith, e)) c.requires.limit _ _
    c.in-Some.ensures.cases.0 _
    (rw e at c.in_default-roots.ensures.refused)

pub returns-then-climb-middle-clause-lifted : goal.returns-then-climb-middle-clause-lifted
returns-then-climb-middle-clause-lifted g t c =
    let e = c.split-middle.ensures.value in
    IfOk-weaker c.lift_beside.result _ _
    (λ digests step. lift_beside_left c.requires.whole c.requires.last (omega arith) (omega (arith, e))
    c.requires.limit _ _ c.in-Some.ensures.cases.0 _ _ _ _
    c.in-Some-split_last.ensures.cases.0 (rw e at c.in-Ok.ensures.roots) (rw e at c.if-climb-middle.true)
    (rw e at step)) c.lift_beside.ensures.lifted

pub lift-requires-2 : goal.lift-requires-2
lift-requires-2 g t c κs within =
    let e = c.split-middle.ensures.value in
    let x = across c.args.size c.args.new_size c.args.climb.now.layer c.args.climb.now.node c.args.growth.now.layer
    c.args.growth.now.node c.requires.whole c.requires.last (omega arith) (omega (arith, e)) in (
      omega (arith, c.decreases, c.split-middle.ensures.some),
      (
        within,
        (
          search rules,
          (
            omega arith,
            (
              omega arith,
              (
                omega (arith, g.met.H.LogHash.short),
                (
                  c.requires.layers,
                  (
                    rw e (x.right_whole (rw e at c.if-climb-middle.false)),
                    (rw e x.edge_ends, (omega arith, omega arith)),
                  ),
                ),
              ),
            ),
          ),
        ),
      ),
    )

pub returns-clause-lifted : goal.returns-clause-lifted
returns-clause-lifted g t c =
    let e = c.split-middle.ensures.value in
    rw c.in_ok-push-2.ensures.items (lift_right c.requires.whole c.requires.last (omega arith)
    (omega (arith, e)) c.requires.limit _ _ c.in-Some.ensures.cases.0 _ _ _ _
    c.in-Some-split_last.ensures.cases.0 (rw e at c.in-Ok.ensures.roots) _ (rw e at c.if-climb-middle.false)
    (rw e at c.in_ok-check_right.ensures.same_root) (rw e at c.in_ok-digests-2.ensures.lifted))
