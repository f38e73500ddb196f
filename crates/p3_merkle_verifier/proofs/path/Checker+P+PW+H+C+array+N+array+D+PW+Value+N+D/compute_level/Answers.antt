-- One step from the layer that the check has reached.
use Rattle.std.proofs.Common.{refl}
use Rattle.p3_merkle_verifier.proofs.LevelFacts.{level_alone, level_with_rows, step_from}
use Rattle.p3_merkle_verifier.proofs.path.Checker+P+PW+H+C+array+N+array+D+PW+Value+N+D.compute_level.Goals as goal

pub returns-then-not-has_rows : goal.returns-then-not-has_rows
returns-then-not-has_rows g c =
    let checker = c.args.self.now in
    let step = c.step_up-step.ensures in
    let from = step_from checker.schedule.dimensions.now c.args.level checker.arity step.step step.exponent step.rows in
    let one = g.met.PW.PackedValue.default_is_unique c.default-default_digest.result c.default-default_digest.ensures in
    level_alone from c.requires.state (rw (one, ← checker.arity) at c.group-group.ensures) c.if-not-has_rows.true
    (record { at_exponent = refl; at_node = c.parent_of.ensures; taken = refl; reached = c.compress.ensures })

pub returns : goal.returns
returns g c =
    let checker = c.args.self.now in
    let step = c.step_up-step.ensures in
    let from = step_from checker.schedule.dimensions.now c.args.level checker.arity step.step step.exponent step.rows in
    let one = g.met.PW.PackedValue.default_is_unique c.default-default_digest.result c.default-default_digest.ensures in
    level_with_rows from c.requires.state (rw (one, ← checker.arity) at c.group-group.ensures)
    c.if-not-has_rows.false
    (rw (← checker.arity, one, c.row_digest-rows.ensures, c.compress.ensures) at c.pair_group-pair.ensures)
    (record { at_exponent = refl; at_node = c.parent_of.ensures; taken = refl; reached = c.compress-above.ensures })
