-- The digests are counted by a walk without them, and summed up layer by layer.
use Rattle.std.proofs.Common.{◌≡◌, ℕ, suc, ◌+◌, ◌-◌, ◌*◌, ◌^◌, ◌<◌, ◌≤◌, ap, arith, filter, get_or, inl, inr, length}
use Rattle.std.proofs.Common.{get_or-set_other, get_or-set_same, length-set, sym, subst, ◌∙◌, List}
use Rattle.std.proofs.Math.Nat.{pow-le-pow_right}
use Rattle.std.proofs.lemmas.Bool.{cases_eq}
use Rattle.p3_merkle_core.specs.Geometry.{levels}
use Rattle.p3_merkle_core.specs.Pruning.{boundary}
use Rattle.tlog_multiproof.specs.Entries.{is_node}
use Rattle.tlog_multiproof.specs.Inner.Ascents.{AreUsed, IsReached, sent_before}
use Rattle.tlog_multiproof.specs.Instance.{log_shape}
use Rattle.tlog_multiproof.proofs.NodeSlots.{as_many}
use Rattle.tlog_multiproof.proofs.AscentFacts.{few_before, starts_bound, starts_next, used_start}
use Rattle.tlog_multiproof.proofs.AscentStands.{root_covered, stands_start}
use Rattle.tlog_multiproof.proofs.ascending.starts_of.Goals as goal

-- how many digests of a layer are counted
layer_used : (size : ℕ) (indices : List ℕ) (top l : ℕ) (used : List ℕ) → top ≡ levels (log_shape size) →
    l < levels (log_shape size) → AreUsed size indices top (0 + 1) used →
    get_or used l 0 ≡ sent_before size indices l (2 ^ (levels (log_shape size) - l))
layer_used size indices top l used is low u =
    let one : (0 + 1) * 2 ^ (top - l) ≡ 2 ^ (top - l) = omega arith in
    rw is at (u l (omega arith) ∙ ap (sent_before size indices l) one)

pub walk-requires-clause-reached : goal.walk-requires-clause-reached
walk-requires-clause-reached g c =
    let indices = g.E.AscendingEntries.indices c.args.entries.now in
    subst (λ (l : ℕ). IsReached c.args.size indices l 0) (sym c.requires.top)
    (inl (root_covered c.args.size indices c.requires.some c.requires.below))

pub walk-requires-clause-stands : goal.walk-requires-clause-stands
walk-requires-clause-stands g c =
    rw c.start-cursor.ensures.next (stands_start (g.E.AscendingEntries.indices c.args.entries.now) c.args.top)

pub walk-requires-clause-used : goal.walk-requires-clause-used
walk-requires-clause-used g c =
    used_start c.args.size (g.E.AscendingEntries.indices c.args.entries.now) c.args.top c.start-cursor.result.used
    c.start-cursor.ensures.used

pub overflow_add-total : goal.overflow_add-total
overflow_add-total g c =
    let size = c.args.size in
    let l = c.loop-layer.layer in
    let indices = g.E.AscendingEntries.indices c.args.entries.now in
    let top = levels (log_shape size) in
    let low : l < top = omega (arith, c.loop-layer-test.true, c.requires.top) in
    let here = layer_used size indices c.args.top l c.walk.new.cursor.used c.requires.top low c.walk.ensures.used in
    let few : top ≤ 62 = omega (arith, c.requires.top, c.requires.few) in
    let most : 2 ^ top ≤ 2 ^ 62 = pow-le-pow_right {n = 2} (omega arith) few in
    omega (
      arith,
      here,
      c.loop-layer.invariant.total,
      few_before size indices l (2 ^ (top - l)),
      starts_bound size indices c.requires.below l (omega arith),
    )

pub loop-layer-preserved : goal.loop-layer-preserved
loop-layer-preserved g c =
    let size = c.args.size in
    let l = c.loop-layer.layer in
    let indices = g.E.AscendingEntries.indices c.args.entries.now in
    let top = levels (log_shape size) in
    let low : l < top = omega (arith, c.loop-layer-test.true, c.requires.top) in
    let here = layer_used size indices c.args.top l c.walk.new.cursor.used c.requires.top low c.walk.ensures.used in
    let starts = c.loop-layer.starts in
    let w = c.loop-layer.invariant in
    let inside : l < length starts = omega (arith, w.long, c.requires.few, c.loop-layer-test.true) in
    let next : l + 1 ≡ suc l = omega arith in
    record {
      long = length-set starts l c.loop-layer.total ∙ w.long;
      total = rw next (omega (arith, w.total, here, starts_next size indices c.requires.below l low));
      starts = λ m less. elim (cases_eq m l) [
        | inl e ↦ rw e (get_or-set_same starts l c.loop-layer.total 0 inside ∙ w.total)
        | inr ne ↦ get_or-set_other starts l m c.loop-layer.total 0 ne ∙ w.starts m (omega (arith, ne))
      ];
    }

pub returns-clause-starts : goal.returns-clause-starts
returns-clause-starts g c = λ l low.
    c.loop-layer.invariant.starts l (omega (arith, c.loop-layer-test.false, c.requires.top))

pub returns-clause-count : goal.returns-clause-count
returns-clause-count g c =
    let size = c.args.size in
    let indices = g.E.AscendingEntries.indices c.args.entries.now in
    let top : c.loop-layer.layer ≡ levels (log_shape size) =
    omega (arith, c.loop-layer-test.false, c.loop-layer.auto.layer-end, c.requires.top) in
    c.loop-layer.invariant.total
    ∙ ap (λ l. length (filter (is_node size) (boundary (log_shape size) indices l))) top
    ∙ sym (as_many (filter (is_node size) (boundary (log_shape size) indices (levels (log_shape size)))))
