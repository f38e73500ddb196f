use Rattle.whole_writes.proofs.WriteFacts.{Wrote}
use Rattle.whole_writes.proofs.writing.write_whole.Given as goal

abbrev pub invariant-loop-turn : goal.invariant-loop-turn
invariant-loop-turn g l = Wrote (g.W.Write.contents l.fn.output) (g.W.Write.contents l.output) l.text l.rest
