-- The greatest cap height is that of the rule.
use Rattle.std.proofs.Common.{◌∙◌, ◌-◌, ap, refl}
use Rattle.p3_merkle_core.specs.Geometry.{shape_of}
use Rattle.p3_merkle_core.proofs.Shapes.CapFacts.{lowered_by_numbers}
use Rattle.p3_merkle_core.proofs.schedule.Schedule.cap_layer.Goals as goal
use Rattle.p3_merkle_core.proofs.schedule.Schedule.cap_layer.Goals.{in-Lowered, in-Fixed}

pub returns : goal.returns
returns c =
    let schedule = c.args.self.now in
    let s = shape_of schedule.arity schedule.dimensions.now in
    c.saturating_sub.ensures ∙ ap (λ k. schedule.num_levels - k) c.min.ensures
    ∙ elim c.match-rule.branch [
      | in-Lowered w ↦
          rw (
            w.in-Lowered.is,
            w.max_cap_height-is,
            w.div_ceil-max_cap_height.ensures,
            w.exponent_of.ensures,
            w.exponent_of-in-Lowered.ensures,
          )
          (lowered_by_numbers s c.requires c.args.cap_height schedule.num_levels schedule.min_height
          schedule.walked.whole
          schedule.walked.shortest)
      | in-Fixed w ↦ rw (w.in-Fixed.is, w.max_cap_height-is, schedule.walked.whole) refl
    ]
