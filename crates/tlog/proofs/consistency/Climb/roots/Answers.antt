-- Each turn is one step of the iteration of RFC 9162 (2.1.4.2).
use Rattle.std.proofs.Common.{◌≡◌, sym, ◌∙◌, arith, false}
use Rattle.std.proofs.lemmas.Bool.Decides.{nat_tests}
use Rattle.std.specs.Prelude.{◌==◌}
use Rattle.tlog.specs.Verdicts.{consistency_end_refusal}
use Rattle.tlog.proofs.Walks.{consistency_ends, consistency_left, consistency_right, consistency_stops}
use Rattle.tlog.proofs.consistency.Climb.roots.Goals as goal
use Rattle.tlog.proofs.consistency.Climb.roots.Goals.{then-sibling_is_left, else-sibling_is_left}

pub returns-then-last-eq0-clause-refused : goal.returns-then-last-eq0-clause-refused
returns-then-last-eq0-clause-refused g c = λ first second.
    let e = sym c.loop-digest.invariant
    ∙ consistency_stops g.H.LogHash.hash c.args.self.now.digests.now _ _ _ _ _ c.loop-digest-test.true
    c.if-last-eq0.true in
    rw e

pub loop-digest-preserved : goal.loop-digest-preserved
loop-digest-preserved g c =
    let z : (c.loop-digest.last == 0) ≡ false = grind (arith, nat_tests) in
    elim c.if-sibling_is_left.branch [
      | then-sibling_is_left w ↦
          let e = consistency_left g.H.LogHash.hash c.args.self.now.digests.now _ _ _ _ _ _ c.loop-digest-test.true z
          (sym c.sibling_is_left.ensures ∙ w.if-sibling_is_left.true) in
          rw (
            w.node-is,
            w.last-is,
            w.old-is,
            w.new-is,
            w.node_hash-old.ensures,
            w.node_hash-new.ensures,
            c.digest-item.is,
          )
          (sym e ∙ c.loop-digest.invariant)
      | else-sibling_is_left w ↦
          let e = consistency_right g.H.LogHash.hash c.args.self.now.digests.now _ _ _ _ _ _ c.loop-digest-test.true z
          (sym c.sibling_is_left.ensures ∙ w.if-sibling_is_left.false) in
          rw (w.node-is, w.last-is, w.old-is, w.new-is, w.node_hash-new-else-sibling_is_left.ensures, c.digest-item.is)
          (sym e ∙ c.loop-digest.invariant)
    ]

pub returns-then-last-gt0-clause-refused : goal.returns-then-last-gt0-clause-refused
returns-then-last-gt0-clause-refused g c = λ first second.
    let z : (c.loop-digest.last == 0) ≡ false = grind (arith, nat_tests) in
    let e = sym c.loop-digest.invariant
    ∙ consistency_ends g.H.LogHash.hash c.args.self.now.digests.now _ _ _ _ _ c.loop-digest-test.false in
    rw (e, z, consistency_end_refusal)

pub returns-clause-roots : goal.returns-clause-roots
returns-clause-roots g c =
    let z : c.loop-digest.last ≡ 0 = omega arith in
    let e = sym c.loop-digest.invariant
    ∙ consistency_ends g.H.LogHash.hash c.args.self.now.digests.now _ _ _ _ _ c.loop-digest-test.false in
    rw z at e
