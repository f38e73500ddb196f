-- Two, or the arity.
use Rattle.std.proofs.Common.{ap, cond, false, sym, ◌∙◌}
use Rattle.p3_merkle_core.specs.Geometry.{shape_of}
use Rattle.p3_merkle_core.proofs.Shapes.ExponentFacts.{bridge_at}
use Rattle.p3_merkle_core.proofs.schedule.Schedule.step.Goals as goal

pub returns-then-self-level : goal.returns-then-self-level
returns-then-self-level c =
    let self = c.args.self.now in
    ap (λ b. cond b 2 self.arity) (sym c.if-self-level.true
    ∙ bridge_at (shape_of self.arity self.dimensions.now) self.of_level self.num_levels c.args.level
    (record { is_bridge = false; has_rows = false }) self.walked.kept c.requires)

pub returns-else-self-level : goal.returns-else-self-level
returns-else-self-level c =
    let self = c.args.self.now in
    ap (λ b. cond b 2 self.arity) (sym c.if-self-level.false
    ∙ bridge_at (shape_of self.arity self.dimensions.now) self.of_level self.num_levels c.args.level
    (record { is_bridge = false; has_rows = false }) self.walked.kept c.requires)
