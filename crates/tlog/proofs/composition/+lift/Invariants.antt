use Rattle.tlog.proofs.composition.+lift.Given as goal

abbrev pub decreases-lift : goal.decreases-lift
decreases-lift g l = l.new_size
