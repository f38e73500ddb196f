use Rattle.fohlazu_c.proofs.growing.+put.Given as goal

abbrev pub decreases-put : goal.decreases-put
decreases-put l = l.size
