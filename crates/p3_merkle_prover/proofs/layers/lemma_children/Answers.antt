-- What is known of a level speaks of the layer below it.
use Rattle.p3_merkle_prover.proofs.layers.lemma_children.Goals as goal

pub returns : goal.returns
returns g c = let level = c.requires.level in
    record { wide = level.wide; narrow = level.narrow; fits = rw c.requires.slots level.fits }
