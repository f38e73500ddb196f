use Rattle.tlog_tree.proofs.Inputs.{IsSoFar}
use Rattle.tlog_tree.proofs.frontier.parents.Given as goal

abbrev pub invariant-loop-i : goal.invariant-loop-i
invariant-loop-i l = IsSoFar l.layer l.i l.inputs.items
