-- The steps are those of the column, up to the root.
use Rattle.std.proofs.Common.{◌≡◌, ◌∙◌, ap, arith}
use Rattle.p3_merkle_core.specs.Checks.{params}
use Rattle.p3_merkle_core.specs.Geometry.{levels, shape_of}
use Rattle.tlog_multiproof.specs.Instance.{log_functions, log_shape}
use Rattle.tlog_multiproof.proofs.Shapes.{two_is_arity}
use Rattle.tlog_multiproof.proofs.tree.LogTree.checker.Goals as goal

pub invariant_of-result : goal.invariant_of-result
invariant_of-result g c =
    let schedule = c.schedule_of-schedule in
    let whole = schedule.result.walked.whole in
    record {
      functions = tt;
      arity = schedule.ensures.arity;
      check = record { arity = rw schedule.ensures.arity two_is_arity; in_tree = omega (arith, whole) };
    }

pub returns : goal.returns
returns g c = λ size is.
    let schedule = c.schedule_of-schedule in
    let shape_is : shape_of schedule.result.arity schedule.result.dimensions.now ≡ log_shape size =
    λ i. shape_of (schedule.ensures.arity i) ((schedule.ensures.dimensions ∙ is) i) in
    let whole : schedule.result.num_levels ≡ levels (log_shape size) =
    schedule.result.walked.whole ∙ ap levels shape_is in
    λ i. params (log_functions g.H.LogHash.hash) (shape_is i) (whole i)
