use Rattle.p3_support.specs.Inner.Drawn.{AreDrawn}
use Rattle.p3_support.proofs.salts.draw_each.Given as goal

abbrev pub invariant-loop : goal.invariant-loop
invariant-loop g l =
    AreDrawn g.T.SaltWord.of_salt_word l.counter l.initial.values l.values (g.R.Rng.stream l.initial.rng)
    (g.R.Rng.stream l.rng)
