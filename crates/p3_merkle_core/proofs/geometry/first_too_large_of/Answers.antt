-- There is one only where the greatest is too large; then the heights are gone through up to it.
use Rattle.std.proofs.Common.{arith, sym}
use Rattle.p3_support.specs.Batches.{heights_of}
use Rattle.p3_merkle_core.proofs.Shapes.GateFacts.{none_large_up_to}
use Rattle.p3_merkle_core.proofs.geometry.first_too_large_of.Goals as goal

pub returns-then-max_height-le-MAX_HEIGHT : goal.returns-then-max_height-le-MAX_HEIGHT
returns-then-max_height-le-MAX_HEIGHT c =
    sym (none_large_up_to (heights_of c.args.dimensions.now)
    (omega (arith, c.requires, c.if-max_height-le-MAX_HEIGHT.true)))
