use Rattle.std.proofs.Common.{◌∙◌}
use Rattle.p3_hashes.proofs.eights.pack_child.Goals as goal

pub returns : goal.returns
returns g c = λ k below.
    let packed = c.pack_columns_fn.ensures k below in
    packed.2 ∙ packed.1.0
