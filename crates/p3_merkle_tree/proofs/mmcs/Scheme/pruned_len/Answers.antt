-- The boundary of the covered leaves is counted, which is least.
use Rattle.std.proofs.Common.{◌∙◌, arith, inl, refl}
use Rattle.std.proofs.lemmas.Result.{IfOk-from_err, err_from_is_err_and}
use Rattle.p3_support.specs.Batches.{heights_of}
use Rattle.p3_merkle_core.specs.Geometry.{shape_of, IsArity}
use Rattle.p3_merkle_core.specs.Pruning.{pruned_len}
use Rattle.p3_merkle_core.proofs.Covered.SizeFacts.{few}
use Rattle.p3_merkle_core.proofs.Covered.Sufficient.{count_least}
use Rattle.p3_merkle_core.proofs.Shapes.GateFacts.{none_large_from_lawful, tallest_fits}
use Rattle.p3_merkle_tree.specs.Schemes.{cap_layer_of}
use Rattle.p3_merkle_tree.proofs.CheckFacts.{are_steps}
use Rattle.p3_merkle_tree.proofs.mmcs.Scheme.pruned_len.Goals as goal

pub returns-in_err-check_heights-clause-least : goal.returns-in_err-check_heights-clause-least
returns-in_err-check_heights-clause-least g c = IfOk-from_err c.from_residual.result _ c.from_residual.ensures.0

pub returns-in_err-check_indices-clause-least : goal.returns-in_err-check_indices-clause-least
returns-in_err-check_indices-clause-least g c =
    IfOk-from_err c.from_residual-in_err-check_indices.result _ c.from_residual-in_err-check_indices.ensures.0

pub returns-in_err-leaves-clause-least : goal.returns-in_err-leaves-clause-least
returns-in_err-leaves-clause-least g c =
    IfOk-from_err c.from_residual-in_err-leaves.result _ c.from_residual-in_err-leaves.ensures.0

pub returns-in_err-check_heights-clause-few : goal.returns-in_err-check_heights-clause-few
returns-in_err-check_heights-clause-few g c = IfOk-from_err c.from_residual.result _ c.from_residual.ensures.0

pub returns-in_err-check_indices-clause-few : goal.returns-in_err-check_indices-clause-few
returns-in_err-check_indices-clause-few g c =
    IfOk-from_err c.from_residual-in_err-check_indices.result _ c.from_residual-in_err-check_indices.ensures.0

pub returns-in_err-leaves-clause-few : goal.returns-in_err-leaves-clause-few
returns-in_err-leaves-clause-few g c =
    IfOk-from_err c.from_residual-in_err-leaves.result _ c.from_residual-in_err-leaves.ensures.0

pub returns-in_err-leaves-clause-answer : goal.returns-in_err-leaves-clause-answer
returns-in_err-leaves-clause-answer g c =
    let p = err_from_is_err_and c.from_residual-in_err-leaves.result c.from_residual-in_err-leaves.ensures.1 in
    rw p.1 (inl p.2)

pub new-requires-clause-low : goal.new-requires-clause-low
new-requires-clause-low g c =
    let heights = heights_of c.schedule_of-schedule.result.dimensions.now in
    tallest_fits heights (none_large_from_lawful heights (c.in_ok-check_heights.ensures.lawful.0 refl))

pub new-requires-clause-below : goal.new-requires-clause-below
new-requires-clause-below g c = rw c.schedule_of-schedule.result.walked.tallest at c.in_ok-check_indices.ensures.below

pub returns-clause-least : goal.returns-clause-least
returns-clause-least g c =
    let scheme = c.args.self.now in
    let made = c.schedule_of-schedule in
    let schedule = are_steps g.row.N c.args.dimensions.now scheme.cap_rule scheme.cap_height made.result
    c.cap_layer-cap_layer.result made.ensures.arity made.ensures.dimensions c.cap_layer-cap_layer.ensures in
    let s = shape_of g.row.N c.args.dimensions.now in
    let arity : IsArity made.result.arity = rw made.ensures.arity scheme.arity in
    let below = rw made.result.walked.tallest at c.in_ok-check_indices.ensures.below in
    let own = c.new.ensures in
    count_least s c.args.indices.now (cap_layer_of scheme s) c.boundary_len.result
    (record {
      well_shaped = scheme.arity;
      below = rw made.ensures.dimensions at below;
      in_tree = omega arith;
    })
    (c.boundary_len.ensures
    ∙ (λ i. pruned_len (shape_of (own.schedule i).arity (own.schedule i).dimensions.now) (own.indices i)
    c.cap_layer-cap_layer.result)
    ∙ (λ i. pruned_len (schedule.tree i) c.args.indices.now (schedule.at_cap i)))

pub returns-clause-few : goal.returns-clause-few
returns-clause-few g c =
    let scheme = c.args.self.now in
    let made = c.schedule_of-schedule in
    let s = shape_of g.row.N c.args.dimensions.now in
    let below = rw made.result.walked.tallest at c.in_ok-check_indices.ensures.below in
    few s c.args.indices.now (cap_layer_of scheme s)
    (record {
      well_shaped = scheme.arity;
      below = rw made.ensures.dimensions at below;
      in_tree = omega arith;
    }) c.boundary_len.result (returns-clause-least g c).counted
