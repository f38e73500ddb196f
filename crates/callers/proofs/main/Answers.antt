-- The notes are two rows of two words.
use Rattle.std.proofs.Common.{rules}
use Rattle.callers.proofs.main.Goals as goal

pub new-notes-requires : goal.new-notes-requires
new-notes-requires c = record { divides = (2, search rules) }
