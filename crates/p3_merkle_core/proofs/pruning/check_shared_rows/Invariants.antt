-- Each turn compares the rows of the matrices of one layer.
use Rattle.std.proofs.Common.{◌≡◌, ◌-◌, ◌+◌}
use Rattle.std.specs.List.{range_with_len}
use Rattle.p3_merkle_core.specs.Geometry.{shape_of, layer_exponent}
use Rattle.p3_merkle_core.specs.Inner.Agreement.{layers_refusal}
use Rattle.p3_answers.specs.Answers.{first_of}
use Rattle.p3_support.specs.RowSets.{sets_in}
use Rattle.p3_merkle_core.proofs.Pruned.LeadFacts.{layer_fault}
use Rattle.p3_merkle_core.proofs.pruning.check_shared_rows.Given as goal

-- the layer and those below it agree, so those above it decide
abbrev pub invariant-loop-level : goal.invariant-loop-level
invariant-loop-level g l =
    let s = shape_of l.schedule.arity l.schedule.dimensions.now in
    record {
      at : l.exponent ≡ layer_exponent s l.level;
      so_far :
          first_of (layer_fault g.T.PartialEq.eq s l.queried.indices.items l.queried.first_queries.items
          (sets_in l.rows)) (range_with_len (l.level + 1) (l.cap_layer - l.level))
          ≡ layers_refusal g.T.PartialEq.eq s l.cap_layer l.queried.indices.items l.queried.first_queries.items
          (sets_in l.rows);
    }
