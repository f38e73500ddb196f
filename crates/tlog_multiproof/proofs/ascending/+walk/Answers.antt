-- The walk, case by case: a digest of the proof, a leaf, and a node above others, whose second child may be none.
use Rattle.std.proofs.Common.{rules, ◌≡◌, ℕ, suc, ◌+◌, ◌-◌, ◌*◌, ◌/◌, ◌^◌, ◌<◌, ◌≤◌, true, false, List, [], ◌∷◌, ap}
use Rattle.std.proofs.Common.{arith, inl, inr, get_or, nat_lt, sym, subst, ◌∙◌}
use Rattle.std.proofs.lemmas.Bool.{cases_lt, lt-ltb, true≢false}
use Rattle.p3_merkle_core.specs.Geometry.{levels}
use Rattle.p3_merkle_core.specs.Pruning.{is_covered, value_of}
use Rattle.tlog_multiproof.specs.Entries.{entries_opening}
use Rattle.tlog_multiproof.specs.Inner.Ascents.{AreSent, AreUsed, StandsAt}
use Rattle.tlog_multiproof.specs.Instance.{log_params, log_shape}
use Rattle.tlog_multiproof.specs.Nodes.{parent_digest}
use Rattle.tlog_multiproof.specs.declared.tree.Node.{Node}
use Rattle.tlog_multiproof.specs.declared.tree.Node.TheVariants.{Absent}
use Rattle.tlog_multiproof.proofs.AscentFacts.{few_before, if_both, slot_small, used_down, used_here, used_leaf}
use Rattle.tlog_multiproof.proofs.AscentFacts.{used_outside, used_sent, used_up}
use Rattle.tlog_multiproof.proofs.AscentStands.{child_reached, covered_next, reached_sent, stands_down}
use Rattle.tlog_multiproof.proofs.AscentStands.{stands_outside, stands_uncovered, stands_up}
use Rattle.tlog_multiproof.proofs.AscentValues.{leaf_value, only_child, outside_value, parent_value, sent_value}
use Rattle.tlog_multiproof.proofs.Shapes.{double_slot}
use Rattle.tlog_multiproof.proofs.ascending.+walk.Goals as goal

-- a slot that is no node has no entries below it
no_node : (size x : ℕ) → nat_lt x size ≡ false → size ≤ x
no_node size x f = elim (cases_lt x size) [
  | inl less ↦ absurd (true≢false (sym (lt-ltb x size less) ∙ f))
  | inr more ↦ more
]

-- ---- a digest of the proof

pub take_digest-requires-clause-few : goal.take_digest-requires-clause-few
take_digest-requires-clause-few g t c =
    let indices = g.E.AscendingEntries.indices c.args.entries.now in
    omega (
      arith,
      used_here c.args.size indices c.args.layer c.args.slot c.args.cursor.now.used c.requires.used,
      few_before c.args.size indices c.args.layer c.args.slot,
      slot_small c.args.size c.args.layer c.args.slot c.requires.inside,
      c.requires.limit,
    )

pub take_digest-requires-clause-there : goal.take_digest-requires-clause-there
take_digest-requires-clause-there g t c =
    let size = c.args.size in
    let l = c.args.layer in
    let j = c.args.slot in
    let indices = g.E.AscendingEntries.indices c.args.entries.now in
    let leaves = g.E.AscendingEntries.leaves c.args.entries.now in
    let n = sym (c.is_above_next.ensures size c.requires.stands) ∙ c.if-not-is_above_next.true in
    let sent = reached_sent size indices l j c.requires.inside n c.requires.reached in
    if_both c.args.sent (λ x are (same : AreSent size indices x.starts.now x.digests.now).
    (sent_value g.H.LogHash.hash size indices leaves x.digests.now c.requires.below
    (g.met.E.AscendingEntries.in_pairs c.args.entries.now) are.count l j (get_or x.starts.now l 0)
    (get_or c.args.cursor.now.used l 0) sent.0 n sent.1 (are.begin l sent.0)
    (used_here size indices l j c.args.cursor.now.used c.requires.used)).0) c.requires.sent c.requires.sent

pub returns-then-not-is_above_next-clause-stands : goal.returns-then-not-is_above_next-clause-stands
returns-then-not-is_above_next-clause-stands g t c =
    let n = sym (c.is_above_next.ensures c.args.size c.requires.stands) ∙ c.if-not-is_above_next.true in
    rw c.take_digest.ensures.next
    (stands_uncovered c.args.size (g.E.AscendingEntries.indices c.args.entries.now) c.args.layer c.args.slot
    c.args.cursor.now.next n c.requires.stands)

pub returns-then-not-is_above_next-clause-used : goal.returns-then-not-is_above_next-clause-used
returns-then-not-is_above_next-clause-used g t c =
    let size = c.args.size in
    let indices = g.E.AscendingEntries.indices c.args.entries.now in
    let n = sym (c.is_above_next.ensures size c.requires.stands) ∙ c.if-not-is_above_next.true in
    let sent = reached_sent size indices c.args.layer c.args.slot c.requires.inside n c.requires.reached in
    used_sent size indices c.args.layer c.args.slot c.args.cursor.now.used c.take_digest.new.cursor.used sent.1 n
    c.requires.used c.take_digest.ensures.used
    (λ m less. c.take_digest.ensures.others m (λ e. omega arith))

pub returns-then-not-is_above_next-clause-above : goal.returns-then-not-is_above_next-clause-above
returns-then-not-is_above_next-clause-above g t c = λ m more. c.take_digest.ensures.others m (λ e. omega arith)

pub returns-then-not-is_above_next-clause-value : goal.returns-then-not-is_above_next-clause-value
returns-then-not-is_above_next-clause-value g t c =
    let size = c.args.size in
    let l = c.args.layer in
    let j = c.args.slot in
    let indices = g.E.AscendingEntries.indices c.args.entries.now in
    let leaves = g.E.AscendingEntries.leaves c.args.entries.now in
    let n = sym (c.is_above_next.ensures size c.requires.stands) ∙ c.if-not-is_above_next.true in
    let sent = reached_sent size indices l j c.requires.inside n c.requires.reached in
    if_both c.args.sent (λ x are is.
    ap (λ (node : Node). node ∷ []) is
    ∙ sym (sent_value g.H.LogHash.hash size indices leaves x.digests.now c.requires.below
    (g.met.E.AscendingEntries.in_pairs c.args.entries.now) are.count l j (get_or x.starts.now l 0)
    (get_or c.args.cursor.now.used l 0) sent.0 n sent.1 (are.begin l sent.0)
    (used_here size indices l j c.args.cursor.now.used c.requires.used)).1) c.requires.sent c.take_digest.ensures.value

-- ---- a leaf

pub take_leaf-requires-clause-inside : goal.take_leaf-requires-clause-inside
take_leaf-requires-clause-inside g t c =
    let covered = sym (c.is_above_next.ensures c.args.size c.requires.stands) ∙ c.if-not-is_above_next.false in
    (covered_next c.args.size (g.E.AscendingEntries.indices c.args.entries.now) c.args.layer c.args.slot
    c.args.cursor.now.next (g.met.E.AscendingEntries.ascending c.args.entries.now) c.requires.stands covered).0

pub returns-then-layer-eq0-clause-used : goal.returns-then-layer-eq0-clause-used
returns-then-layer-eq0-clause-used g t c =
    let size = c.args.size in
    let j = c.args.slot in
    let indices = g.E.AscendingEntries.indices c.args.entries.now in
    let zero = c.if-layer-eq0.true in
    let covered = sym (c.is_above_next.ensures size c.requires.stands) ∙ c.if-not-is_above_next.false in
    rw c.take_leaf.ensures.used
    (subst (λ (l : ℕ). AreUsed size indices l (j + 1) c.args.cursor.now.used) (sym zero)
    (used_leaf size indices j c.args.cursor.now.used
    (subst (λ (l : ℕ). is_covered (log_shape size) indices l j ≡ true) zero covered)
    (subst (λ (l : ℕ). AreUsed size indices l j c.args.cursor.now.used) zero c.requires.used)))

pub returns-then-layer-eq0-clause-value : goal.returns-then-layer-eq0-clause-value
returns-then-layer-eq0-clause-value g t c =
    let size = c.args.size in
    let j = c.args.slot in
    let indices = g.E.AscendingEntries.indices c.args.entries.now in
    let leaves = g.E.AscendingEntries.leaves c.args.entries.now in
    let next = c.args.cursor.now.next in
    let zero = c.if-layer-eq0.true in
    let whole : j * 2 ^ 0 ≡ j = omega arith in
    let one : get_or indices next 0 / 2 ^ 0 ≡ get_or indices next 0 = omega arith in
    let covered = sym (c.is_above_next.ensures size c.requires.stands) ∙ c.if-not-is_above_next.false in
    let above = covered_next size indices c.args.layer j next (g.met.E.AscendingEntries.ascending c.args.entries.now)
    c.requires.stands covered in
    let stands : StandsAt indices j next =
    subst (λ (x : ℕ). StandsAt indices x next) whole
    (subst (λ (l : ℕ). StandsAt indices (j * 2 ^ l) next) zero c.requires.stands) in
    let is : get_or indices next 0 ≡ j =
    sym one ∙ subst (λ (l : ℕ). get_or indices next 0 / 2 ^ l ≡ j) zero above.1 in
    if_both c.args.sent (λ x are leaf.
    ap (λ (node : Node). node ∷ []) leaf
    ∙ sym (ap (λ l. value_of (log_params g.H.LogHash.hash size) (entries_opening size indices leaves x.digests.now) l j)
    zero
    ∙ leaf_value g.H.LogHash.hash size indices leaves x.digests.now c.requires.below
    (g.met.E.AscendingEntries.in_pairs c.args.entries.now) j next stands
    (subst (λ (l : ℕ). is_covered (log_shape size) indices l j ≡ true) zero covered) above.0 is))
    c.requires.sent c.take_leaf.ensures.value

-- ---- a node above others

pub walk-left-requires : goal.walk-left-requires
walk-left-requires g t c κs within =
    let size = c.args.size in
    let j = c.args.slot in
    let l = c.args.layer - 1 in
    let indices = g.E.AscendingEntries.indices c.args.entries.now in
    let up : suc l ≡ c.args.layer = omega (arith, c.if-layer-eq0.false) in
    let covered = sym (c.is_above_next.ensures size c.requires.stands) ∙ c.if-not-is_above_next.false in
    let none : 2 * j + 0 ≡ 2 * j = omega arith in
    let half : 2 * j / 2 ≡ j = omega arith in
    let inside : 2 * j * 2 ^ l < size =
    rw none at (rw (sym (double_slot j l)) at (subst (λ (m : ℕ). j * 2 ^ m < size) (sym up) c.requires.inside)) in (
      omega (arith, c.decreases, up),
      (
        search (rules, within),
        (
          search (rules, within),
          (
            c.requires.limit,
            (
              c.requires.below,
              (
                omega (arith, c.requires.layer),
                (
                  omega (arith, c.requires.low),
                  (
                    inside,
                    (
                      child_reached size indices l j (2 * j) (omega (arith, c.requires.low))
                          (subst (λ (m : ℕ). is_covered (log_shape size) indices m j ≡ true) (sym up) covered) half,
                      (
                        stands_down size indices l j c.args.cursor.now.next
                            (subst (λ (m : ℕ). StandsAt indices (j * 2 ^ m) c.args.cursor.now.next) (sym up)
                            c.requires.stands),
                        (
                          used_down size indices l j c.args.cursor.now.used
                              (subst (λ (m : ℕ). AreUsed size indices m j c.args.cursor.now.used) (sym up)
                              c.requires.used),
                          c.requires.sent,
                        ),
                      ),
                    ),
                  ),
                ),
              ),
            ),
          ),
        ),
      ),
    )

pub returns-then-not-is_node-clause-stands : goal.returns-then-not-is_node-clause-stands
returns-then-not-is_node-clause-stands g t c =
    let size = c.args.size in
    let j = c.args.slot in
    let l = c.args.layer - 1 in
    let indices = g.E.AscendingEntries.indices c.args.entries.now in
    let next = c.walk-left.new.cursor.next in
    let up : suc l ≡ c.args.layer = omega (arith, c.if-layer-eq0.false) in
    let past = no_node size ((2 * j + 1) * 2 ^ l) (sym c.is_node.ensures ∙ c.if-not-is_node.true) in
    subst (λ (m : ℕ). StandsAt indices ((j + 1) * 2 ^ m) next) up
    (stands_up size indices l j next
    (stands_outside size indices l (2 * j + 1) next c.requires.below past c.walk-left.ensures.stands))

pub returns-then-not-is_node-clause-used : goal.returns-then-not-is_node-clause-used
returns-then-not-is_node-clause-used g t c =
    let size = c.args.size in
    let j = c.args.slot in
    let l = c.args.layer - 1 in
    let indices = g.E.AscendingEntries.indices c.args.entries.now in
    let old = c.args.cursor.now.used in
    let new = c.walk-left.new.cursor.used in
    let up : suc l ≡ c.args.layer = omega (arith, c.if-layer-eq0.false) in
    let covered = sym (c.is_above_next.ensures size c.requires.stands) ∙ c.if-not-is_above_next.false in
    let past = no_node size ((2 * j + 1) * 2 ^ l) (sym c.is_node.ensures ∙ c.if-not-is_node.true) in
    subst (λ (m : ℕ). AreUsed size indices m (j + 1) new) up
    (used_up size indices l j old new
    (subst (λ (m : ℕ). is_covered (log_shape size) indices m j ≡ true) (sym up) covered)
    (subst (λ (m : ℕ). AreUsed size indices m j old) (sym up) c.requires.used)
    (c.walk-left.ensures.above (suc l) (omega arith))
    (used_outside size indices l (2 * j + 1) new past c.walk-left.ensures.used))

pub returns-then-not-is_node-clause-value : goal.returns-then-not-is_node-clause-value
returns-then-not-is_node-clause-value g t c =
    let hash = g.H.LogHash.hash in
    let size = c.args.size in
    let j = c.args.slot in
    let l = c.args.layer - 1 in
    let indices = g.E.AscendingEntries.indices c.args.entries.now in
    let leaves = g.E.AscendingEntries.leaves c.args.entries.now in
    let paired = g.met.E.AscendingEntries.in_pairs c.args.entries.now in
    let up : suc l ≡ c.args.layer = omega (arith, c.if-layer-eq0.false) in
    let low : l < levels (log_shape size) = omega (arith, c.requires.low) in
    let covered = subst (λ (m : ℕ). is_covered (log_shape size) indices m j ≡ true) (sym up)
    (sym (c.is_above_next.ensures size c.requires.stands) ∙ c.if-not-is_above_next.false) in
    let past = no_node size ((2 * j + 1) * 2 ^ l) (sym c.is_node.ensures ∙ c.if-not-is_node.true) in
    if_both c.args.sent (λ x are left.
    let value = value_of (log_params hash size) (entries_opening size indices leaves x.digests.now) in
    let out = outside_value hash size indices leaves x.digests.now c.requires.below paired are.count l j low covered
    past in
    sym (only_child hash c.walk-left.result)
    ∙ ap (λ (d : List Node). parent_digest hash (d ∷ ((Absent ∷ []) ∷ []))) left
    ∙ ap (λ (d : List Node). parent_digest hash (value l (2 * j) ∷ (d ∷ []))) (sym out)
    ∙ sym (parent_value hash size indices leaves x.digests.now c.requires.below paired l j low covered)
    ∙ ap (λ (m : ℕ). value m j) up) c.requires.sent c.walk-left.ensures.value

pub returns-clause-stands : goal.returns-clause-stands
returns-clause-stands g t c =
    let j = c.args.slot in
    let l = c.args.layer - 1 in
    let indices = g.E.AscendingEntries.indices c.args.entries.now in
    let next = c.walk-right.new.cursor.next in
    let up : suc l ≡ c.args.layer = omega (arith, c.if-layer-eq0.false) in
    subst (λ (m : ℕ). StandsAt indices ((j + 1) * 2 ^ m) next) up
    (stands_up c.args.size indices l j next c.walk-right.ensures.stands)

pub returns-clause-used : goal.returns-clause-used
returns-clause-used g t c =
    let size = c.args.size in
    let j = c.args.slot in
    let l = c.args.layer - 1 in
    let indices = g.E.AscendingEntries.indices c.args.entries.now in
    let old = c.args.cursor.now.used in
    let new = c.walk-right.new.cursor.used in
    let up : suc l ≡ c.args.layer = omega (arith, c.if-layer-eq0.false) in
    let covered = sym (c.is_above_next.ensures size c.requires.stands) ∙ c.if-not-is_above_next.false in
    subst (λ (m : ℕ). AreUsed size indices m (j + 1) new) up
    (used_up size indices l j old new
    (subst (λ (m : ℕ). is_covered (log_shape size) indices m j ≡ true) (sym up) covered)
    (subst (λ (m : ℕ). AreUsed size indices m j old) (sym up) c.requires.used)
    (c.walk-right.ensures.above (suc l) (omega arith) ∙ c.walk-left.ensures.above (suc l) (omega arith))
    c.walk-right.ensures.used)

pub returns-clause-value : goal.returns-clause-value
returns-clause-value g t c =
    let hash = g.H.LogHash.hash in
    let size = c.args.size in
    let j = c.args.slot in
    let l = c.args.layer - 1 in
    let indices = g.E.AscendingEntries.indices c.args.entries.now in
    let leaves = g.E.AscendingEntries.leaves c.args.entries.now in
    let paired = g.met.E.AscendingEntries.in_pairs c.args.entries.now in
    let up : suc l ≡ c.args.layer = omega (arith, c.if-layer-eq0.false) in
    let low : l < levels (log_shape size) = omega (arith, c.requires.low) in
    let covered = subst (λ (m : ℕ). is_covered (log_shape size) indices m j ≡ true) (sym up)
    (sym (c.is_above_next.ensures size c.requires.stands) ∙ c.if-not-is_above_next.false) in
    if_both c.args.sent (λ x left right.
    let value = value_of (log_params hash size) (entries_opening size indices leaves x.digests.now) in
    ap (λ (node : Node). node ∷ []) c.parent_of.ensures
    ∙ ap (λ (d : List Node). parent_digest hash (d ∷ ((c.walk-right.result ∷ []) ∷ []))) left
    ∙ ap (λ (d : List Node). parent_digest hash (value l (2 * j) ∷ (d ∷ []))) right
    ∙ sym (parent_value hash size indices leaves x.digests.now c.requires.below paired l j low covered)
    ∙ ap (λ (m : ℕ). value m j) up) c.walk-left.ensures.value c.walk-right.ensures.value

pub returns-clause-above : goal.returns-clause-above
returns-clause-above g t c = λ m more.
    c.walk-right.ensures.above m (omega arith) ∙ c.walk-left.ensures.above m (omega arith)
