-- The steps that the tree keeps are its own.
use Rattle.std.proofs.Common.{◌∙◌, ap}
use Rattle.p3_support.specs.Batches.{greatest}
use Rattle.p3_merkle_core.specs.Geometry.{Shape, heights}
use Rattle.p3_merkle_prover.proofs.opener.max_height.Goals as goal

pub returns : goal.returns
returns g c =
    c.args.tree.now.schedule.walked.tallest ∙ ap (λ (s : Shape). greatest (heights s)) c.args.tree.now.own_shape
