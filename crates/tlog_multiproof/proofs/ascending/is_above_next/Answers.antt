-- The next entry is under the node exactly if the node is covered and the cursor is not past it.
use Rattle.std.proofs.Common.{◌<◌, ◌/◌, ◌^◌, ap, arith, eq-eqb, inl, inr, length, ltb-true, nat_lt, ne_eqb, sym, ◌∙◌}
use Rattle.std.proofs.lemmas.Bool.{cases_eq, false_from_ne_true}
use Rattle.p3_merkle_core.specs.Pruning.{is_covered}
use Rattle.tlog_multiproof.specs.Instance.{log_shape}
use Rattle.tlog_multiproof.proofs.AscentStands.{covered_next, query_above}
use Rattle.tlog_multiproof.proofs.ascending.is_above_next.Goals as goal

pub returns-then-next-len : goal.returns-then-next-len
returns-then-next-len g c = λ size w.
    let indices = g.E.AscendingEntries.indices c.args.entries.now in
    let up = g.met.E.AscendingEntries.ascending c.args.entries.now in
    let l = c.args.layer in
    let j = c.args.slot in
    let inside : c.args.next < length indices = omega (arith, c.if-next-len.true, c.len.ensures) in
    elim (cases_eq (c.index.result / 2 ^ l) j) [
      | inl e ↦
          eq-eqb (c.index.result / 2 ^ l) j e
          ∙ sym (query_above size indices c.args.next l j inside (rw c.index.ensures at e))
      | inr ne ↦
          ne_eqb (c.index.result / 2 ^ l) j ne
          ∙ sym (false_from_ne_true (is_covered (log_shape size) indices l j) (λ t.
          ne (ap (λ i. i / 2 ^ l) c.index.ensures ∙ (covered_next size indices l j c.args.next up w t).1)))
    ]

pub returns-else-next-len : goal.returns-else-next-len
returns-else-next-len g c = λ size w.
    let indices = g.E.AscendingEntries.indices c.args.entries.now in
    let up = g.met.E.AscendingEntries.ascending c.args.entries.now in
    let l = c.args.layer in
    let j = c.args.slot in
    false_from_ne_true (nat_lt c.args.next c.len.result)
    (λ t. let less = ltb-true c.args.next c.len.result t in absurd (omega (arith, c.if-next-len.false)))
    ∙ sym (false_from_ne_true (is_covered (log_shape size) indices l j) (λ t.
    let less = (covered_next size indices l j c.args.next up w t).0 in
    absurd (omega (arith, c.if-next-len.false, c.len.ensures))))
