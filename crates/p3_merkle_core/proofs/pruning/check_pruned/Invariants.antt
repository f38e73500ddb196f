use Rattle.std.proofs.Common.{◌≡◌, ℕ, [], drop, get_or}
use Rattle.p3_support.specs.RowSets.{sets_in}
use Rattle.p3_merkle_core.specs.Refusals.{width_refusal}
use Rattle.p3_answers.specs.Answers.{first_of}
use Rattle.p3_merkle_core.proofs.pruning.check_pruned.Given as goal

-- the row sets so far have their widths, so the rest decides
abbrev pub invariant-loop-query : goal.invariant-loop-query
invariant-loop-query g l =
    let refusal = λ (query : ℕ). width_refusal l.schedule.dimensions.now (get_or (sets_in l.rows) query []) in
    first_of refusal (drop l.query-index l.query-items) ≡ first_of refusal l.query-items
