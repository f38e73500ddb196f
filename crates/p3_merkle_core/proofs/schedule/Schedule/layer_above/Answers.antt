-- The numbers of the layer above follow from how many slots of the layer below are grouped.
use Rattle.std.proofs.Common.{◌/◌, ◌<◌, ◌∙◌, arith, ap, false, refl, sym}
use Rattle.std.proofs.lemmas.Bool.{le-ltb, lt-ltb}
use Rattle.std.proofs.lemmas.Nat.{one_shl}
use Rattle.p3_merkle_core.specs.Geometry.{shape_of, height_at}
use Rattle.p3_merkle_core.proofs.Shapes.LevelFacts.{small_at, level_is, low, next_small, grouped_is}
use Rattle.p3_merkle_core.proofs.Covered.CoveredFacts.{padded_le}
use Rattle.p3_merkle_core.proofs.Shapes.ExponentFacts.{bridge_at}
use Rattle.p3_merkle_core.proofs.schedule.Schedule.layer_above.Goals.{then-self-below+then-len-arity, else-self-below}
use Rattle.p3_merkle_core.proofs.schedule.Schedule.layer_above.Goals.{else-self-below-via-then-self-below+else-len-arity}
use Rattle.p3_merkle_core.proofs.schedule.Schedule.layer_above.Goals.{else-self-below-via-else-self-below}
use Rattle.p3_merkle_core.proofs.schedule.Schedule.layer_above.Goals as goal

pub overflow_shl-grouped_len : goal.overflow_shl-grouped_len
overflow_shl-grouped_len c =
    let k = small_at c.requires in
    omega (arith, k.exponent_small, c.requires.at_x)

pub padded_len-grouped_len-requires-clause-fits : goal.padded_len-grouped_len-requires-clause-fits
padded_len-grouped_len-requires-clause-fits c =
    let k = small_at c.requires in
    let least = c.requires.arity.fits in
    let two = c.requires.arity.above_1 in
    omega (arith, padded_le c.args.len c.args.self.now.arity (omega arith), k.raw_small, c.requires.at_raw)

pub padded_len-requires-clause-fits : goal.padded_len-requires-clause-fits
padded_len-requires-clause-fits c =
    let self = c.args.self.now in
    let s = shape_of self.arity self.dimensions.now in
    let r = c.args.len in
    let x = c.args.exponent in
    let g = c.if-self-below.grouped_len in
    let bridge = bridge_at s self.of_level self.num_levels c.args.below
    (record { is_bridge = false; has_rows = false }) self.walked.kept
    (omega (arith, c.requires.in_tree, self.walked.whole)) in
    let few = (small_at c.requires).exponent_small in
    let low : x < 64 = omega (arith, few, c.requires.at_x) in
    let grouped = grouped_is g _ c.requires bridge (elim c.if-self-below.branch [
      | then-self-below+then-len-arity w ↦
          w.grouped_len-is ∙ one_shl x 64 low
          ∙ sym (rw (w.if-self-below.true, lt-ltb r self.arity w.if-len-arity.true) refl)
      | else-self-below w ↦
          w.grouped_len-is ∙ w.padded_len-grouped_len.ensures ∙ sym (elim w.else-self-below.branch [
            | else-self-below-via-then-self-below+else-len-arity w ↦
                rw (w.if-self-below.true, le-ltb r self.arity w.if-len-arity.false) refl
            | else-self-below-via-else-self-below w ↦ rw w.if-self-below.false refl
          ])
    ]) in
    let least = c.requires.arity.fits in
    let two = c.requires.arity.above_1 in
    let k = next_small c.step_up-up.result.step g c.requires c.step_up-up.ensures.step grouped in
    omega (arith, padded_le (g / c.step_up-up.result.step) self.arity (omega arith), k)

pub height_of_exponent-requires : goal.height_of_exponent-requires
height_of_exponent-requires c =
    let self = c.args.self.now in
    omega (arith, low (shape_of self.arity self.dimensions.now) c.requires.lawful, self.walked.tallest)

pub returns-clause-level : goal.returns-clause-level
returns-clause-level c =
    let self = c.args.self.now in
    let s = shape_of self.arity self.dimensions.now in
    let r = c.args.len in
    let x = c.args.exponent in
    let g = c.if-self-below.grouped_len in
    let bridge = bridge_at s self.of_level self.num_levels c.args.below
    (record { is_bridge = false; has_rows = false }) self.walked.kept
    (omega (arith, c.requires.in_tree, self.walked.whole)) in
    let few = (small_at c.requires).exponent_small in
    let low : x < 64 = omega (arith, few, c.requires.at_x) in
    let grouped = grouped_is g _ c.requires bridge (elim c.if-self-below.branch [
      | then-self-below+then-len-arity w ↦
          w.grouped_len-is ∙ one_shl x 64 low
          ∙ sym (rw (w.if-self-below.true, lt-ltb r self.arity w.if-len-arity.true) refl)
      | else-self-below w ↦
          w.grouped_len-is ∙ w.padded_len-grouped_len.ensures ∙ sym (elim w.else-self-below.branch [
            | else-self-below-via-then-self-below+else-len-arity w ↦
                rw (w.if-self-below.true, le-ltb r self.arity w.if-len-arity.false) refl
            | else-self-below-via-else-self-below w ↦ rw w.if-self-below.false refl
          ])
    ]) in
    level_is c.step_up-up.result.step c.step_up-up.result.exponent g c.padded_len.result c.height_of_exponent.result
    c.step_up-up.result.has_rows c.requires c.step_up-up.ensures.step c.step_up-up.ensures.exponent grouped
    c.padded_len.ensures (c.height_of_exponent.ensures ∙ ap (λ m. height_at m c.step_up-up.result.exponent)
    self.walked.tallest) c.step_up-up.ensures.rows
