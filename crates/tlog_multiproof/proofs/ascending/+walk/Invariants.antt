use Rattle.tlog_multiproof.proofs.ascending.+walk.Given as goal

abbrev pub decreases-walk : goal.decreases-walk
decreases-walk g l = l.layer
