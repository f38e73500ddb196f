-- The steps below the cap are the first of all steps.
use Rattle.std.proofs.Common.{◌≡◌, ◌∙◌, ◌≤◌, ◌-◌, ◌*◌, ℕ, ap, arith, inl, length, subst, sym}
use Rattle.std.proofs.lemmas.Result.{IfOk-from_err, err_from_is_err_and}
use Rattle.std.proofs.lemmas.List.FromFn.{length-map-range_with_len, take-map-range_with_len}
use Rattle.std.specs.List.{sum_by}
use Rattle.std.specs.Vec.{vec_len}
use Rattle.p3_merkle_core.specs.Checks.{siblings_below}
use Rattle.p3_merkle_core.specs.Geometry.{levels, schedule_below, shape_of, step}
use Rattle.p3_merkle_core.proofs.Covered.SizeFacts.{siblings_most, siblings_sum}
use Rattle.p3_merkle_core.proofs.Shapes.LadderFacts.{levels_le}
use Rattle.p3_merkle_tree.specs.Schemes.{cap_layer_of}
use Rattle.p3_merkle_tree.proofs.CheckFacts.{are_steps}
use Rattle.p3_merkle_tree.proofs.mmcs.Scheme.proof_arity_schedule.Goals as goal

pub returns-in_err-check_heights-clause-steps : goal.returns-in_err-check_heights-clause-steps
returns-in_err-check_heights-clause-steps g c = IfOk-from_err c.from_residual.result _ c.from_residual.ensures.0

pub returns-in_err-check_heights-clause-first : goal.returns-in_err-check_heights-clause-first
returns-in_err-check_heights-clause-first g c = IfOk-from_err c.from_residual.result _ c.from_residual.ensures.0

pub returns-in_err-check_heights-clause-few : goal.returns-in_err-check_heights-clause-few
returns-in_err-check_heights-clause-few g c = IfOk-from_err c.from_residual.result _ c.from_residual.ensures.0

pub returns-in_err-check_heights-clause-siblings : goal.returns-in_err-check_heights-clause-siblings
returns-in_err-check_heights-clause-siblings g c = IfOk-from_err c.from_residual.result _ c.from_residual.ensures.0

pub returns-in_err-check_heights-clause-few_siblings : goal.returns-in_err-check_heights-clause-few_siblings
returns-in_err-check_heights-clause-few_siblings g c = IfOk-from_err c.from_residual.result _ c.from_residual.ensures.0

pub returns-in_err-schedule_below-clause-siblings : goal.returns-in_err-schedule_below-clause-siblings
returns-in_err-schedule_below-clause-siblings g c =
    IfOk-from_err c.from_residual-in_err-schedule_below.result _ c.from_residual-in_err-schedule_below.ensures.0

pub returns-in_err-schedule_below-clause-few_siblings : goal.returns-in_err-schedule_below-clause-few_siblings
returns-in_err-schedule_below-clause-few_siblings g c =
    IfOk-from_err c.from_residual-in_err-schedule_below.result _ c.from_residual-in_err-schedule_below.ensures.0

pub returns-in_err-schedule_below-clause-steps : goal.returns-in_err-schedule_below-clause-steps
returns-in_err-schedule_below-clause-steps g c =
    IfOk-from_err c.from_residual-in_err-schedule_below.result _ c.from_residual-in_err-schedule_below.ensures.0

pub returns-in_err-schedule_below-clause-first : goal.returns-in_err-schedule_below-clause-first
returns-in_err-schedule_below-clause-first g c =
    IfOk-from_err c.from_residual-in_err-schedule_below.result _ c.from_residual-in_err-schedule_below.ensures.0

pub returns-in_err-schedule_below-clause-few : goal.returns-in_err-schedule_below-clause-few
returns-in_err-schedule_below-clause-few g c =
    IfOk-from_err c.from_residual-in_err-schedule_below.result _ c.from_residual-in_err-schedule_below.ensures.0

pub returns-in_err-schedule_below-clause-answer : goal.returns-in_err-schedule_below-clause-answer
returns-in_err-schedule_below-clause-answer g c =
    let p = err_from_is_err_and c.from_residual-in_err-schedule_below.result
    c.from_residual-in_err-schedule_below.ensures.1 in
    rw p.1 (inl p.2)

pub returns-clause-steps : goal.returns-clause-steps
returns-clause-steps g c =
    let scheme = c.args.self.now in
    let made = c.schedule_of-schedule in
    let schedule = are_steps g.row.N c.args.dimensions.now scheme.cap_rule scheme.cap_height made.result
    c.cap_layer-cap_layer.result made.ensures.arity made.ensures.dimensions c.cap_layer-cap_layer.ensures in
    c.in_ok-schedule_below.ensures ∙ (λ i. schedule_below (schedule.tree i) (schedule.at_cap i))

pub returns-clause-first : goal.returns-clause-first
returns-clause-first g c =
    let s = shape_of g.row.N c.args.dimensions.now in
    let t = cap_layer_of c.args.self.now s in
    returns-clause-steps g c ∙ sym (take-map-range_with_len (step s) 0 (levels s) t (omega arith))

pub returns-clause-few : goal.returns-clause-few
returns-clause-few g c =
    let s = shape_of g.row.N c.args.dimensions.now in
    let t = cap_layer_of c.args.self.now s in
    omega (arith, ap length (returns-clause-steps g c), length-map-range_with_len (step s) 0 t, levels_le s)

pub returns-clause-siblings : goal.returns-clause-siblings
returns-clause-siblings g c =
    let s = shape_of g.row.N c.args.dimensions.now in
    siblings_sum s (cap_layer_of c.args.self.now s)
    ∙ ap (sum_by (λ (n : ℕ). n - 1)) (sym (returns-clause-steps g c))

pub returns-clause-few_siblings : goal.returns-clause-few_siblings
returns-clause-few_siblings g c =
    let s = shape_of g.row.N c.args.dimensions.now in
    let t = cap_layer_of c.args.self.now s in
    let long : t ≡ vec_len c.in_ok-schedule_below.field-0 =
    omega (arith, ap length (returns-clause-steps g c), length-map-range_with_len (step s) 0 t) in
    subst (λ (n : ℕ). siblings_below s t ≤ (g.row.N - 1) * n) long
    (siblings_most s c.args.self.now.arity.above_1 t)
