-- The verdict, refusal by refusal.
use Rattle.std.proofs.Common.{◌≡◌, ℕ, ◌-◌, ◌<◌, ap, arith, inl, length, sym}
use Rattle.std.proofs.Common.{subst, ◌∙◌}
use Rattle.p3_merkle_core.specs.Geometry.{levels}
use Rattle.p3_merkle_core.specs.Pruning.{value_of}
use Rattle.tlog_multiproof.specs.Entries.{entries_opening, proof_nodes}
use Rattle.tlog_multiproof.specs.Inner.Ascents.{IsReached}
use Rattle.tlog_multiproof.specs.Instance.{log_params, log_shape}
use Rattle.tlog_multiproof.specs.declared.error.EntriesError.TheVariants.{IndexPastEnd, TooFewDigests, TooManyDigests}
use Rattle.tlog_multiproof.proofs.AscentFacts.{used_start}
use Rattle.tlog_multiproof.proofs.AscentStands.{root_covered, stands_start}
use Rattle.tlog_multiproof.proofs.AscentVerdicts.{all_below_last, by_value, form_refused, past_end, right_form}
use Rattle.tlog_multiproof.proofs.AscentValues.{value_covered}
use Rattle.tlog_multiproof.proofs.AscentVerdicts.{too_few, too_many, two_leaves}
use Rattle.tlog_multiproof.proofs.ascending.verify.Goals as goal

pub returns-then-index-size : goal.returns-then-index-size
returns-then-index-size g c =
    let indices = g.E.AscendingEntries.indices c.args.entries.now in
    let leaves = g.E.AscendingEntries.leaves c.args.entries.now in
    let paired = g.met.E.AscendingEntries.in_pairs c.args.entries.now in
    let some : 0 < length indices = omega (arith, c.if-count-eq0.false, c.len-count.ensures) in
    form_refused g.H.LogHash.hash c.args.size indices leaves c.args.proof.now c.args.root.now IndexPastEnd
    (past_end c.args.size indices (length leaves) (length c.args.proof.now)
    (omega (arith, c.if-size-gt-MAX_HEIGHT.false)) some paired (c.len-count.result - 1)
    (omega (arith, c.len-count.ensures)) (omega (arith, c.if-index-size.true, c.index.ensures)))

pub starts_of-expected-requires-clause-below : goal.starts_of-expected-requires-clause-below
starts_of-expected-requires-clause-below g c =
    let indices = g.E.AscendingEntries.indices c.args.entries.now in
    let some : 0 < length indices = omega (arith, c.if-count-eq0.false, c.len-count.ensures) in
    all_below_last c.args.size indices (g.met.E.AscendingEntries.ascending c.args.entries.now) some
    (rw c.len-count.ensures at (rw c.index.ensures at c.if-index-size.false))

pub returns-then-proof-expected : goal.returns-then-proof-expected
returns-then-proof-expected g c =
    let size = c.args.size in
    let indices = g.E.AscendingEntries.indices c.args.entries.now in
    let leaves = g.E.AscendingEntries.leaves c.args.entries.now in
    let some : 0 < length indices = omega (arith, c.if-count-eq0.false, c.len-count.ensures) in
    let below = all_below_last size indices (g.met.E.AscendingEntries.ascending c.args.entries.now) some
    (rw c.len-count.ensures at (rw c.index.ensures at c.if-index-size.false)) in
    form_refused g.H.LogHash.hash size indices leaves c.args.proof.now c.args.root.now TooFewDigests
    (too_few size indices (length leaves) (length c.args.proof.now) (omega (arith, c.if-size-gt-MAX_HEIGHT.false)) some
    (g.met.E.AscendingEntries.in_pairs c.args.entries.now) below
    (rw c.starts_of-expected.ensures.count at c.if-proof-expected.true))

pub returns-then-proof-expected-2 : goal.returns-then-proof-expected-2
returns-then-proof-expected-2 g c =
    let size = c.args.size in
    let indices = g.E.AscendingEntries.indices c.args.entries.now in
    let leaves = g.E.AscendingEntries.leaves c.args.entries.now in
    let some : 0 < length indices = omega (arith, c.if-count-eq0.false, c.len-count.ensures) in
    let below = all_below_last size indices (g.met.E.AscendingEntries.ascending c.args.entries.now) some
    (rw c.len-count.ensures at (rw c.index.ensures at c.if-index-size.false)) in
    form_refused g.H.LogHash.hash size indices leaves c.args.proof.now c.args.root.now TooManyDigests
    (too_many size indices (length leaves) (length c.args.proof.now) (omega (arith, c.if-size-gt-MAX_HEIGHT.false)) some
    (g.met.E.AscendingEntries.in_pairs c.args.entries.now) below
    (rw c.starts_of-expected.ensures.count at c.if-proof-expected-2.true))

pub returns-then-not-is_one_leaf_each : goal.returns-then-not-is_one_leaf_each
returns-then-not-is_one_leaf_each g c =
    let size = c.args.size in
    let indices = g.E.AscendingEntries.indices c.args.entries.now in
    let leaves = g.E.AscendingEntries.leaves c.args.entries.now in
    let some : 0 < length indices = omega (arith, c.if-count-eq0.false, c.len-count.ensures) in
    let below = all_below_last size indices (g.met.E.AscendingEntries.ascending c.args.entries.now) some
    (rw c.len-count.ensures at (rw c.index.ensures at c.if-index-size.false)) in
    let count : length c.args.proof.now ≡ length (proof_nodes size indices) =
    omega (arith, c.if-proof-expected.false, c.if-proof-expected-2.false, c.starts_of-expected.ensures.count) in
    two_leaves g.H.LogHash.hash size indices leaves c.args.proof.now c.args.root.now
    (right_form size indices (length leaves) (length c.args.proof.now) (omega (arith, c.if-size-gt-MAX_HEIGHT.false))
    some (g.met.E.AscendingEntries.in_pairs c.args.entries.now) below count)
    (sym c.is_one_leaf_each.ensures ∙ c.if-not-is_one_leaf_each.true)

pub walk-value-requires-clause-reached : goal.walk-value-requires-clause-reached
walk-value-requires-clause-reached g c =
    let indices = g.E.AscendingEntries.indices c.args.entries.now in
    let some : 0 < length indices = omega (arith, c.if-count-eq0.false, c.len-count.ensures) in
    let below = all_below_last c.args.size indices (g.met.E.AscendingEntries.ascending c.args.entries.now) some
    (rw c.len-count.ensures at (rw c.index.ensures at c.if-index-size.false)) in
    subst (λ (l : ℕ). IsReached c.args.size indices l 0) (sym c.levels_of-top.ensures.levels)
    (inl (root_covered c.args.size indices some below))

pub walk-value-requires-clause-stands : goal.walk-value-requires-clause-stands
walk-value-requires-clause-stands g c =
    rw c.start-cursor.ensures.next
    (stands_start (g.E.AscendingEntries.indices c.args.entries.now) c.levels_of-top.result)

pub walk-value-requires-clause-used : goal.walk-value-requires-clause-used
walk-value-requires-clause-used g c =
    used_start c.args.size (g.E.AscendingEntries.indices c.args.entries.now) c.levels_of-top.result
    c.start-cursor.result.used c.start-cursor.ensures.used

pub returns : goal.returns
returns g c =
    let hash = g.H.LogHash.hash in
    let size = c.args.size in
    let indices = g.E.AscendingEntries.indices c.args.entries.now in
    let leaves = g.E.AscendingEntries.leaves c.args.entries.now in
    let proof = c.args.proof.now in
    let paired = g.met.E.AscendingEntries.in_pairs c.args.entries.now in
    let some : 0 < length indices = omega (arith, c.if-count-eq0.false, c.len-count.ensures) in
    let below = all_below_last size indices (g.met.E.AscendingEntries.ascending c.args.entries.now) some
    (rw c.len-count.ensures at (rw c.index.ensures at c.if-index-size.false)) in
    let count : length proof ≡ length (proof_nodes size indices) =
    omega (arith, c.if-proof-expected.false, c.if-proof-expected-2.false, c.starts_of-expected.ensures.count) in
    let value = value_of (log_params hash size) (entries_opening size indices leaves proof) in
    by_value hash size indices leaves proof c.args.root.now
    (right_form size indices (length leaves) (length proof) (omega (arith, c.if-size-gt-MAX_HEIGHT.false)) some paired
    below count)
    (sym c.is_one_leaf_each.ensures ∙ c.if-not-is_one_leaf_each.false) c.walk-value.result c.check_root.result
    (c.walk-value.ensures.value ∙ ap (λ (l : ℕ). value l 0) c.levels_of-top.ensures.levels
    ∙ value_covered hash size indices leaves proof below paired (levels (log_shape size)) 0
    (root_covered size indices some below)) c.check_root.ensures
