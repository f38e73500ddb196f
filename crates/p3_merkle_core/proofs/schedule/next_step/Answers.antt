-- No exponent of a matrix lies between where a step starts and where it leads.
use Rattle.std.proofs.Common.{◌≡◌, ◌-◌, ◌∙◌, ap, arith, cond, false, nat_lt, rules, sym}
use Rattle.std.specs.Option.{MatchOption}
use Rattle.p3_support.specs.Batches.{heights_of}
use Rattle.p3_merkle_core.specs.Geometry.{exponent}
use Rattle.p3_merkle_core.proofs.Shapes.ExponentFacts.{is_value, is_no_value, next_found, next_stays, none_from}
use Rattle.p3_merkle_core.proofs.Shapes.ExponentFacts.{step_found, IsStepUp}
use Rattle.p3_merkle_core.proofs.schedule.next_step.Goals.{then-is_bridge, else-is_bridge, After-eq-has_rows}
use Rattle.p3_merkle_core.proofs.schedule.next_step.Goals as goal

-- what the step is, whether or not matrices belong to where it leads
step_up : (c : After-eq-has_rows) → IsStepUp c.args.arity c.args.exponents.layer c.if-is_bridge.layer
    (heights_of c.args.matrices.now.dimensions.now) c.is_some_and-is_bridge.result
step_up c =
    let x = c.args.exponents.layer in
    let target = c.saturating_sub-target.result in
    let b = c.is_some_and-is_bridge.result in
    let told : MatchOption c.args.exponents.next_lower_exponent (b ≡ false) (λ e. b ≡ nat_lt target e) =
    search rules in
    step_found c.args.arity x c.exponent_of.result target c.if-is_bridge.layer c.args.exponents.next_lower_exponent
    (heights_of c.args.matrices.now.dimensions.now) b c.requires.arity c.requires.below c.exponent_of.ensures
    c.saturating_sub-target.ensures c.requires.next.next_is told (elim c.if-is_bridge.branch [
      | then-is_bridge w ↦ w.layer-is ∙ ap (λ b. cond b (x - 1) target) (sym w.if-is_bridge.true)
      | else-is_bridge w ↦ w.layer-is ∙ ap (λ b. cond b (x - 1) target) (sym w.if-is_bridge.false)
    ])

pub returns-then-has_rows : goal.returns-then-has_rows
returns-then-has_rows c =
    let hs = heights_of c.args.matrices.now.dimensions.now in
    let x = c.args.exponents.layer in
    let y = c.if-is_bridge.layer in
    let up = step_up (goal.at.returns-then-has_rows c).After-eq-has_rows in
    let above = c.exponents_at-above.ensures in
    let is_y = is_value c.args.exponents.next_lower_exponent y (sym c.eq-has_rows.ensures ∙ c.if-has_rows.true) in
    record {
      bridge = up.bridge;
      layer = above.layer ∙ up.layer ∙ ap (λ b. cond b (x - 1) (x - exponent c.args.arity)) up.bridge;
      rows = rw above.layer (c.if-has_rows.true ∙ sym (next_found x hs y (sym c.requires.next.next_is ∙ is_y)).had);
      next = above.next;
    }

pub returns-else-has_rows : goal.returns-else-has_rows
returns-else-has_rows c =
    let hs = heights_of c.args.matrices.now.dimensions.now in
    let x = c.args.exponents.layer in
    let y = c.if-is_bridge.layer in
    let up = step_up (goal.at.returns-else-has_rows c).After-eq-has_rows in
    let next = c.args.exponents.next_lower_exponent in
    let is_not_y = is_no_value next y (sym c.eq-has_rows.ensures ∙ c.if-has_rows.false) in
    let none = none_from x y hs up.down up.none_over (λ is_y. is_not_y (c.requires.next.next_is ∙ is_y)) in
    record {
      bridge = up.bridge;
      layer = up.layer ∙ ap (λ b. cond b (x - 1) (x - exponent c.args.arity)) up.bridge;
      rows = c.if-has_rows.false ∙ sym (none y (omega arith) up.down);
      next = record { next_is = c.requires.next.next_is ∙ sym (next_stays x y hs (omega (arith, up.down)) none) };
    }
