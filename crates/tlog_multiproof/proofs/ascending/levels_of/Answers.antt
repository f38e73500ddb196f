-- The levels of the schedule are those of the log's shape.
use Rattle.std.proofs.Common.{◌≡◌, ◌∙◌, arith}
use Rattle.p3_merkle_core.specs.Geometry.{levels}
use Rattle.tlog_multiproof.specs.Instance.{log_shape}
use Rattle.tlog_multiproof.proofs.ShapeFacts.{levels_small}
use Rattle.tlog_multiproof.proofs.ascending.levels_of.Goals as goal

pub returns-clause-levels : goal.returns-clause-levels
returns-clause-levels c =
    let schedule = c.schedule_of in
    rw (schedule.ensures.arity, schedule.ensures.dimensions ∙ c.dimensions_of.ensures) at
    schedule.result.walked.whole

pub returns-clause-few : goal.returns-clause-few
returns-clause-few c =
    let schedule = c.schedule_of in
    let whole : schedule.result.num_levels ≡ levels (log_shape c.args.size) =
    rw (schedule.ensures.arity, schedule.ensures.dimensions ∙ c.dimensions_of.ensures) at
    schedule.result.walked.whole in
    omega (arith, levels_small c.args.size c.requires)
