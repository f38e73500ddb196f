-- Nothing is below the leaves.
use Rattle.std.proofs.Common.{◌∙◌, arith, refl, sym}
use Rattle.p3_merkle_core.specs.Geometry.{shape_of}
use Rattle.p3_merkle_core.proofs.Pruned.SlotFacts.{distinct_from}
use Rattle.p3_merkle_core.proofs.covered_nodes.Covered.new.Goals as goal

pub invariant_of-result : goal.invariant_of-result
invariant_of-result c =
    let schedule = c.args.schedule.now in
    record {
      at_layer = record {
        queried = record { well_shaped = c.requires.arity; below = c.requires.below; in_tree = omega arith };
        low = c.requires.low;
        nodes_are = c.requires.nodes
            ∙ sym (distinct_from (shape_of schedule.arity schedule.dimensions.now) c.args.indices.now c.requires.below);
        at_exponent = schedule.walked.leaves;
        boundary_is = refl;
      };
    }
