-- Each turn is one step of the iteration of RFC 9162 (2.1.3.2).
use Rattle.std.proofs.Common.{◌≡◌, ℕ, ◌≤◌, ◌<◌, List, drop, length, Some, None, Ok, Err, sym, ◌∙◌, arith, true, false}
use Rattle.std.specs.Prelude.{◌==◌, Option}
use Rattle.std.proofs.lemmas.Bool.Decides.{nat_tests}
use Rattle.tlog.specs.Rfc9162.{Hash, inclusion_end, inclusion_walk}
use Rattle.tlog.specs.Verdicts.{inclusion_end_refusal, inclusion_refusal, size_limit}
use Rattle.tlog.specs.declared.error.ProofError.{ProofError}
use Rattle.tlog.specs.declared.error.ProofError.TheVariants.{TooManyDigests, TooFewDigests, RootMismatch}
use Rattle.tlog.proofs.Accepted.{different, equal, inclusion_accepted, inclusion_refused}
use Rattle.tlog.proofs.Walks.{inclusion_ends, inclusion_left, inclusion_right, inclusion_stops}
use Rattle.tlog.proofs.inclusion.verify.Goals as goal
use Rattle.tlog.proofs.inclusion.verify.Goals.{then-sibling_is_left, else-sibling_is_left}

pub returns-then-last-eq0-clause-refused : goal.returns-then-last-eq0-clause-refused
returns-then-last-eq0-clause-refused g c =
    inclusion_refused g.H.LogHash.hash c.args.index c.args.size c.args.leaf.now c.args.proof.now c.args.root.now _
    c.if-size-gt-SIZE_LIMIT.false c.if-index-size.false
    (sym c.loop-digest.invariant
    ∙ inclusion_stops g.H.LogHash.hash c.args.proof.now c.loop-digest.digest-index c.loop-digest.node c.loop-digest.last
    c.loop-digest.value c.loop-digest-test.true c.if-last-eq0.true)

pub returns-then-last-eq0-clause-accepted : goal.returns-then-last-eq0-clause-accepted
returns-then-last-eq0-clause-accepted g c =
    inclusion_accepted _ _ _ _ _ _ (Err TooManyDigests) (returns-then-last-eq0-clause-refused g c)

pub loop-digest-preserved : goal.loop-digest-preserved
loop-digest-preserved g c =
    let z : (c.loop-digest.last == 0) ≡ false = grind (arith, nat_tests) in
    elim c.if-sibling_is_left.branch [
      | then-sibling_is_left w ↦
          let e = inclusion_left g.H.LogHash.hash c.args.proof.now _ _ _ _ _ c.loop-digest-test.true z
          (sym c.sibling_is_left.ensures ∙ w.if-sibling_is_left.true) in
          rw (w.node-is, w.last-is, w.value-is, w.node_hash-value.ensures, c.digest-item.is)
          (sym e ∙ c.loop-digest.invariant)
      | else-sibling_is_left w ↦
          let e = inclusion_right g.H.LogHash.hash c.args.proof.now _ _ _ _ _ c.loop-digest-test.true z
          (sym c.sibling_is_left.ensures ∙ w.if-sibling_is_left.false) in
          rw (w.node-is, w.last-is, w.value-is, w.node_hash-value-else-sibling_is_left.ensures, c.digest-item.is)
          (sym e ∙ c.loop-digest.invariant)
    ]

-- where all digests are used, the end is where the loop stands
inclusion_refused_at : (hash : Hash) (index size : ℕ) (leaf : List ℕ) (path : List (List ℕ)) (root : List ℕ) (i fn sn :
    ℕ)
    (r : List ℕ) (refusal : Option ProofError) → size ≤ size_limit → index < size →
    inclusion_walk hash (drop i path) fn sn r ≡ inclusion_end hash index size leaf path → length path ≤ i →
    inclusion_end_refusal (Some (sn, r)) root ≡ refusal → refusal ≡ inclusion_refusal hash index size leaf path root
inclusion_refused_at hash index size leaf path root i fn sn r refusal small within same all e =
    sym e ∙ inclusion_refused hash index size leaf path root (Some (sn, r)) small within
    (sym same ∙ inclusion_ends hash path i fn sn r all)

pub returns-then-last-gt0-clause-refused : goal.returns-then-last-gt0-clause-refused
returns-then-last-gt0-clause-refused g c =
    let z : (c.loop-digest.last == 0) ≡ false = grind (arith, nat_tests) in
    inclusion_refused_at _ _ _ _ _ _ _ _ _ _ (Some TooFewDigests)
    c.if-size-gt-SIZE_LIMIT.false c.if-index-size.false c.loop-digest.invariant c.loop-digest-test.false
    (rw (z, inclusion_end_refusal))

pub returns-then-last-gt0-clause-accepted : goal.returns-then-last-gt0-clause-accepted
returns-then-last-gt0-clause-accepted g c =
    inclusion_accepted _ _ _ _ _ _ (Err TooFewDigests) (returns-then-last-gt0-clause-refused g c)

pub returns-then-ne-clause-refused : goal.returns-then-ne-clause-refused
returns-then-ne-clause-refused g c =
    let z : (c.loop-digest.last == 0) ≡ true = grind (arith, nat_tests) in
    let other = different _ c.if-ne.ensures in
    inclusion_refused_at _ _ _ _ _ _ _ _ _ _ (Some RootMismatch)
    c.if-size-gt-SIZE_LIMIT.false c.if-index-size.false c.loop-digest.invariant c.loop-digest-test.false
    (rw (z, inclusion_end_refusal, other, inclusion_end_refusal))

pub returns-then-ne-clause-accepted : goal.returns-then-ne-clause-accepted
returns-then-ne-clause-accepted g c =
    inclusion_accepted _ _ _ _ _ _ (Err RootMismatch) (returns-then-ne-clause-refused g c)

pub returns-clause-refused : goal.returns-clause-refused
returns-clause-refused g c =
    let z : (c.loop-digest.last == 0) ≡ true = grind (arith, nat_tests) in
    let same = equal _ c.if-ne.ensures in
    inclusion_refused_at _ _ _ _ _ _ _ _ _ _ None
    c.if-size-gt-SIZE_LIMIT.false c.if-index-size.false c.loop-digest.invariant c.loop-digest-test.false
    (rw (z, inclusion_end_refusal, same, inclusion_end_refusal))

pub returns-clause-accepted : goal.returns-clause-accepted
returns-clause-accepted g c =
    inclusion_accepted _ _ _ _ _ _ (Ok tt) (returns-clause-refused g c)
