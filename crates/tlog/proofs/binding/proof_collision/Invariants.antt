use Rattle.tlog.proofs.TwoWalks.{Stand}
use Rattle.tlog.proofs.binding.proof_collision.Given as goal

abbrev pub invariant-loop-i : goal.invariant-loop-i
invariant-loop-i g l =
    Stand g.H.LogHash.hash l.leaf l.other_leaf l.proof l.other_proof l.root l.i l.node l.last l.value l.other
