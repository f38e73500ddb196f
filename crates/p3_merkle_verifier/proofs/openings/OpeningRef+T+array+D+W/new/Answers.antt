-- The rows are whole.
use Rattle.std.proofs.Common.{refl}
use Rattle.p3_support.specs.Shown.{row_lists}
use Rattle.p3_support.proofs.RowFacts.{whole_in_parts}
use Rattle.p3_merkle_verifier.proofs.openings.OpeningRef+T+array+D+W.new.Goals as goal

pub returns : goal.returns
returns g c = rw (whole_in_parts (row_lists c.args.opening.opened_values.now), c.deref.ensures.value) refl
