-- The step that is kept.
use Rattle.std.proofs.Common.{◌≡◌, ◌∙◌, ap, cond, false, sym}
use Rattle.p3_merkle_core.specs.Geometry.{step, shape_of}
use Rattle.p3_merkle_core.specs.declared.schedule.LevelKind.{LevelKind}
use Rattle.p3_merkle_core.proofs.Shapes.ExponentFacts.{kept_at}
use Rattle.p3_merkle_core.proofs.Shapes.SiblingFacts.{above_step}
use Rattle.p3_merkle_core.proofs.schedule.Schedule.step_up.Goals.{then-kept, else-kept}
use Rattle.p3_merkle_core.proofs.schedule.Schedule.step_up.Goals as goal

pub returns : goal.returns
returns c =
    let self = c.args.self.now in
    let s = shape_of c.args.arity self.dimensions.now in
    let l = c.args.level in
    let kept = rw (← c.requires.arity) at (kept_at (shape_of self.arity self.dimensions.now) self.of_level
    self.num_levels l (record { is_bridge = false; has_rows = false }) self.walked.kept c.requires.level) in
    let bridge = ap (λ (kept : LevelKind). kept.is_bridge) kept in
    let is : c.if-kept.step ≡ step s l = elim c.if-kept.branch [
      | then-kept w ↦ w.step-is ∙ ap (λ b. cond b 2 c.args.arity) (sym w.if-kept.true ∙ bridge)
      | else-kept w ↦ w.step-is ∙ ap (λ b. cond b 2 c.args.arity) (sym w.if-kept.false ∙ bridge)
    ] in
    record {
      step = is;
      rows = ap (λ (kept : LevelKind). kept.has_rows) kept;
      exponent = c.saturating_sub.ensures ∙ rw (c.requires.exponent, c.exponent_of.ensures, is) (above_step s l);
    }
