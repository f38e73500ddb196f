-- The parents of the covered nodes are covered, and the children of these that are not are the boundary.
use Rattle.std.proofs.Common.{arith}
use Rattle.p3_merkle_core.proofs.Covered.ClimbFacts.{climbs, IsClimb}
use Rattle.p3_merkle_core.proofs.covered_nodes.Covered.climb.Goals.{After-len}
use Rattle.p3_merkle_core.proofs.covered_nodes.Covered.climb.Goals as goal

-- what is counted of the covered nodes and their parents
counted : (c : After-len) → IsClimb c.args.self.now c.step_up-up.result.exponent c.step_up-up.result.step
    c.len-below.result c.len.result c.replace_by_parents.new.covered.items
counted c = climbs c.args.self.now c.step_up-up.result c.len-below.result c.len.result
    c.replace_by_parents.new.covered.items c.requires c.step_up-up.ensures.step c.step_up-up.ensures.exponent
    (omega arith) (omega arith) c.replace_by_parents.ensures

pub overflow_mul-self : goal.overflow_mul-self
overflow_mul-self c = omega (arith, (counted (goal.at.overflow_mul-self c).After-len).mul_fits)

pub overflow_sub-self : goal.overflow_sub-self
overflow_sub-self c = (counted (goal.at.overflow_sub-self c).After-len).sub_fits

pub overflow_add-self-2 : goal.overflow_add-self-2
overflow_add-self-2 c = omega (arith, (counted (goal.at.overflow_add-self-2 c).After-len).add_fits)

pub invariant_of-self : goal.invariant_of-self
invariant_of-self c = record { at_layer = (counted (goal.at.invariant_of-self c).After-len).there }
