use Rattle.std.proofs.Common.{◌≡◌, zip, drop}
use Rattle.p3_merkle_core.specs.Inner.Agreement.{opened_of}
use Rattle.p3_merkle_core.specs.Refusals.{duplicate_refusal}
use Rattle.p3_answers.specs.Answers.{first_of}
use Rattle.p3_support.specs.RowSets.{sets_in}
use Rattle.p3_merkle_core.proofs.Pruned.SlotFacts.{repeat_fault}
use Rattle.p3_merkle_core.proofs.pruning.check_repeats.Given as goal

-- the queries so far have the row sets of the first ones, so the rest decides
abbrev pub invariant-loop-query : goal.invariant-loop-query
invariant-loop-query g l =
    let p = opened_of l.indices (sets_in l.rows) in
    first_of (repeat_fault g.T.PartialEq.eq p) (zip (drop l.query l.indices) (drop l.query (sets_in l.rows)))
    ≡ duplicate_refusal g.T.PartialEq.eq p
