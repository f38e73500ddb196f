-- Each turn compares the rows of one slot.
use Rattle.std.proofs.Common.{◌≡◌, ◌-◌, ◌/◌, ◌^◌, ◌<◌, length, get_or, map}
use Rattle.std.specs.List.{range_with_len}
use Rattle.p3_support.specs.RowSets.{sets_in}
use Rattle.p3_merkle_core.specs.Inner.Agreement.{first_query, nodes_refusal}
use Rattle.p3_answers.specs.Answers.{first_of}
use Rattle.p3_merkle_core.proofs.Pruned.LeadFacts.{slot_fault}
use Rattle.p3_merkle_core.proofs.pruning.check_rows_under_nodes.Given as goal

-- the first slot under the node of the slot before; the slots so far have their rows, so the rest decides
abbrev pub invariant-loop-slot : goal.invariant-loop-slot
invariant-loop-slot g l =
    let nodes = map (λ i. i / 2 ^ l.bits) l.indices in
    record {
      below : l.first_slot < l.slot;
      is_first : l.first_slot ≡ first_query nodes (get_or nodes (l.slot - 1) 0);
      so_far :
          first_of (slot_fault g.T.PartialEq.eq l.matrices nodes l.first_queries (sets_in l.rows))
          (range_with_len l.slot (length nodes - l.slot))
          ≡ nodes_refusal g.T.PartialEq.eq l.matrices nodes l.first_queries (sets_in l.rows);
    }
