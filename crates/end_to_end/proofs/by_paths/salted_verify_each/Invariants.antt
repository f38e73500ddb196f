-- Each query so far has its verdict.
use Rattle.std.proofs.Common.{◌≡◌, ◌<◌, ℕ, length}
use Rattle.std.specs.Prelude.{Ok, slice_index_or}
use Rattle.p3_support.specs.Shown.{roots_of, row_sets}
use Rattle.p3_merkle_tree.specs.HidingSchemes.{salted_params_of}
use Rattle.p3_merkle_tree.specs.Views.{shown_paths}
use Rattle.end_to_end.specs.Inner.QueryVerdicts.{IsSaltedVerdictOn, query_at}
use Rattle.end_to_end.proofs.by_paths.salted_verify_each.Given as goal

abbrev pub invariant-loop-query : goal.invariant-loop-query
invariant-loop-query g l =
    let c = salted_params_of l.scheme l.dimensions in
    let IsVerdict = IsSaltedVerdictOn g.PW.Value.PartialEq.eq g.row.SALT_ELEMS l.dimensions c (roots_of l.commit) in
    record {
      count : length l.verdicts.items ≡ l.query;
      each : (k : ℕ) → k < l.query →
          IsVerdict (query_at (shown_paths l.paths) (row_sets l.rows) (row_sets l.salts) k)
          (slice_index_or l.verdicts.items k (Ok tt));
    }
