-- The entries so far have the index, and those after the first that has not are of greater indices.
use Rattle.std.proofs.Common.{◌≤◌, ◌∙◌, arith, length}
use Rattle.tlog_multiproof.proofs.AscentStands.{stands_past}
use Rattle.tlog_multiproof.proofs.ascending.past.Goals as goal

pub returns-then-index : goal.returns-then-index
returns-then-index g c =
    let indices = g.E.AscendingEntries.indices c.args.entries.now in
    stands_past indices c.args.index c.args.first c.loop-k.k (g.met.E.AscendingEntries.ascending c.args.entries.now)
    c.requires c.loop-k.auto.k (omega (arith, c.loop-k-test.true, c.len-k-end.ensures)) c.loop-k.invariant
    (λ inside e. c.if-index.true (c.index.ensures ∙ e))

pub returns : goal.returns
returns g c =
    let indices = g.E.AscendingEntries.indices c.args.entries.now in
    let all : length indices ≤ c.loop-k.k = omega (arith, c.loop-k-test.false, c.len-k-end.ensures) in
    stands_past indices c.args.index c.args.first c.len.result (g.met.E.AscendingEntries.ascending c.args.entries.now)
    c.requires (omega (arith, c.requires.within, c.len.ensures)) (omega (arith, c.len.ensures))
    (λ i from less. c.loop-k.invariant i from (omega (arith, c.len.ensures)))
    (λ inside e. absurd (omega (arith, c.len.ensures)))
