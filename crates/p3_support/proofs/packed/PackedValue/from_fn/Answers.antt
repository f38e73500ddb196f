-- No lane is asked for before the first.
use Rattle.std.proofs.Common.{arith}
use Rattle.p3_support.proofs.packed.PackedValue.from_fn.Goals as goal

pub loop-k-init : goal.loop-k-init
loop-k-init g c j h = absurd (omega arith)
