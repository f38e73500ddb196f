-- Lawful heights are not above the limit.
use Rattle.std.proofs.Common.{refl, ◌<◌, ◌≤◌, All}
use Rattle.std.proofs.lemmas.Result.{IfOk-weaker}
use Rattle.p3_merkle_core.specs.Geometry.{height_limit}
use Rattle.p3_support.specs.Batches.{heights_of, greatest}
use Rattle.p3_merkle_core.proofs.Shapes.GateFacts.{none_large_from_lawful, tallest_fits}
use Rattle.p3_merkle_core.proofs.pruning.check_queries.Goals as goal

pub returns-clause-low : goal.returns-clause-low
returns-clause-low c =
    let hs = heights_of c.args.schedule.now.dimensions.now in
    let low = tallest_fits hs (none_large_from_lawful hs (c.in_ok-check_heights.ensures.lawful.0 refl)) in
    IfOk-weaker c.check_indices.result (λ ok. All (λ q. q < c.args.schedule.now.max_height) c.args.indices.now)
    (λ ok. greatest hs ≤ height_limit) (λ _ _. low) c.check_indices.ensures.below
