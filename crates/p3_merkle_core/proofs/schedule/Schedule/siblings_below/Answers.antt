-- The count is that of the siblings below the level that is reached.
use Rattle.std.proofs.Common.{◌<◌, arith, sym, add-one}
use Rattle.p3_merkle_core.specs.Geometry.{levels, shape_of}
use Rattle.p3_merkle_core.proofs.Shapes.SiblingFacts.{siblings_next, siblings_start, step_is, siblings_halved}
use Rattle.p3_merkle_core.proofs.schedule.Schedule.siblings_below.Goals as goal

pub loop-level-init : goal.loop-level-init
loop-level-init c = sym (siblings_start (shape_of c.args.self.now.arity c.args.self.now.dimensions.now))

pub overflow_add-count : goal.overflow_add-count
overflow_add-count c =
    let s = shape_of c.args.self.now.arity c.args.self.now.dimensions.now in
    let below : c.loop-level.level < levels s = omega (arith, c.args.self.now.walked.whole) in
    let is = step_is s c.loop-level.level c.requires.arity c.requires.low below in
    omega (arith, c.requires.arity.fits, is.narrow, is.few, c.step.ensures, c.loop-level.invariant)

pub loop-level-preserved : goal.loop-level-preserved
loop-level-preserved c =
    let s = shape_of c.args.self.now.arity c.args.self.now.dimensions.now in
    rw (add-one, c.step.ensures, c.loop-level.invariant) (sym (siblings_next s c.loop-level.level))

pub returns-then-self-eq2 : goal.returns-then-self-eq2
returns-then-self-eq2 c =
    sym (siblings_halved (shape_of c.args.self.now.arity c.args.self.now.dimensions.now) c.if-self-eq2.true
    c.args.layer)
