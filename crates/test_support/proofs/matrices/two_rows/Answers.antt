-- Two rows of two words.
use Rattle.std.proofs.Common.{rules}
use Rattle.test_support.proofs.matrices.two_rows.Goals as goal

pub new-requires : goal.new-requires
new-requires c = record { divides = (2, search rules) }
