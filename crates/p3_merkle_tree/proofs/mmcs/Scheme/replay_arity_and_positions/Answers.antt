-- The path goes by the steps of the dimensions, to the scheme's own cap layer; lawful heights are within the limit.
use Rattle.std.proofs.Common.{◌∙◌, refl}
use Rattle.std.proofs.lemmas.Result.{IfOk-from_err}
use Rattle.p3_support.specs.Batches.{heights_of}
use Rattle.p3_merkle_core.specs.Geometry.{positions_below, schedule_below}
use Rattle.p3_merkle_core.proofs.Shapes.GateFacts.{tallest_fits, none_large_from_lawful}
use Rattle.p3_merkle_tree.proofs.CheckFacts.{are_steps}
use Rattle.p3_merkle_tree.proofs.mmcs.Scheme.replay_arity_and_positions.Goals as goal

pub returns-in_err-check_heights-clause-schedule : goal.returns-in_err-check_heights-clause-schedule
returns-in_err-check_heights-clause-schedule g c = IfOk-from_err c.from_residual.result _ c.from_residual.ensures.0

pub returns-in_err-check_heights-clause-positions : goal.returns-in_err-check_heights-clause-positions
returns-in_err-check_heights-clause-positions g c = IfOk-from_err c.from_residual.result _ c.from_residual.ensures.0

pub returns-in_err-schedule_below-clause-schedule : goal.returns-in_err-schedule_below-clause-schedule
returns-in_err-schedule_below-clause-schedule g c =
    IfOk-from_err c.from_residual-in_err-schedule_below.result _ c.from_residual-in_err-schedule_below.ensures.0

pub returns-in_err-schedule_below-clause-positions : goal.returns-in_err-schedule_below-clause-positions
returns-in_err-schedule_below-clause-positions g c =
    IfOk-from_err c.from_residual-in_err-schedule_below.result _ c.from_residual-in_err-schedule_below.ensures.0

pub returns-in_err-positions_below-clause-schedule : goal.returns-in_err-positions_below-clause-schedule
returns-in_err-positions_below-clause-schedule g c =
    IfOk-from_err c.from_residual-in_err-positions_below.result _ c.from_residual-in_err-positions_below.ensures.0

pub returns-in_err-positions_below-clause-positions : goal.returns-in_err-positions_below-clause-positions
returns-in_err-positions_below-clause-positions g c =
    IfOk-from_err c.from_residual-in_err-positions_below.result _ c.from_residual-in_err-positions_below.ensures.0

pub siblings_below-expected_proof_len-requires-clause-low : goal.siblings_below-expected_proof_len-requires-clause-low
siblings_below-expected_proof_len-requires-clause-low g c =
    let heights = heights_of c.schedule_of-schedule.result.dimensions.now in
    tallest_fits heights (none_large_from_lawful heights (c.in_ok-check_heights.ensures.lawful.0 refl))

pub returns-clause-schedule : goal.returns-clause-schedule
returns-clause-schedule g c =
    let scheme = c.args.self.now in
    let made = c.schedule_of-schedule in
    let schedule = are_steps g.row.N c.args.dimensions.now scheme.cap_rule scheme.cap_height made.result
    c.cap_layer-cap_layer.result made.ensures.arity made.ensures.dimensions c.cap_layer-cap_layer.ensures in
    c.in_ok-schedule_below.ensures ∙ (λ i. schedule_below (schedule.tree i) (schedule.at_cap i))

pub returns-clause-positions : goal.returns-clause-positions
returns-clause-positions g c =
    let scheme = c.args.self.now in
    let made = c.schedule_of-schedule in
    let schedule = are_steps g.row.N c.args.dimensions.now scheme.cap_rule scheme.cap_height made.result
    c.cap_layer-cap_layer.result made.ensures.arity made.ensures.dimensions c.cap_layer-cap_layer.ensures in
    c.in_ok-positions_below.ensures ∙ (λ i. positions_below (schedule.tree i) (schedule.at_cap i) c.args.index)
