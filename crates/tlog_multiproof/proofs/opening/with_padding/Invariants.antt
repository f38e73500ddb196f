use Rattle.tlog_multiproof.specs.Instance.{slots_of}
use Rattle.tlog_multiproof.proofs.PaddingFacts.{IsPadded}
use Rattle.tlog_multiproof.proofs.opening.with_padding.Given as goal

-- the digests so far; `used` of them are the proof's
abbrev pub invariant-loop-node : goal.invariant-loop-node
invariant-loop-node l = IsPadded l.size (slots_of l.nodes) l.proof l.node-index l.used l.digests.items
