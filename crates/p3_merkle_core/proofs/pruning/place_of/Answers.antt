-- The search stops at the node, which stands at its place.
use Rattle.std.proofs.Common.{arith, sym}
use Rattle.p3_merkle_core.proofs.Covered.KeptFacts.{at_place, not_past, placed}
use Rattle.p3_merkle_core.proofs.pruning.place_of.Goals.{then-start-nodes+then-nodes-start, else-start-nodes}
use Rattle.p3_merkle_core.proofs.pruning.place_of.Goals as goal

pub loop-place-init : goal.loop-place-init
loop-place-init c =
    let at = at_place c.args.nodes.now c.args.node c.requires.ascending c.requires.among in
    record {
      inside = at.0;
      not_past = elim c.if-start-nodes.branch [
        | then-start-nodes+then-nodes-start w ↦ rw w.place-is (not_past c.args.nodes.now c.args.node c.args.start
            c.requires.ascending c.requires.among w.if-start-nodes.true w.if-nodes-start.true)
        | else-start-nodes w ↦ rw w.place-is (omega arith)
      ];
    }

pub loop-place-preserved : goal.loop-place-preserved
loop-place-preserved c =
    let at = at_place c.args.nodes.now c.args.node c.requires.ascending c.requires.among in
    record {
      inside = at.0;
      not_past = grind (arith, at.1);
    }

pub returns-clause-place : goal.returns-clause-place
returns-clause-place c =
    sym (placed c.args.nodes.now c.loop-place.place c.args.node c.requires.ascending
    (omega (arith, c.loop-place.invariant.not_past, c.loop-place.invariant.inside)) c.loop-place-test.false)
