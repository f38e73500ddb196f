use Rattle.std.proofs.Common.{◌≡◌, ◌<◌, ℕ, None}
use Rattle.p3_merkle_verifier.specs.Inner.Checks.{opening_in, params_in}
use Rattle.p3_merkle_verifier.specs.Inner.QueryPairs.{query_difference, query_in}
use Rattle.p3_merkle_verifier.proofs.pruned_extraction.Checker+P+PW+H+C+array+N+array+D+PW+Value+N+D.differing_query.Given as goal

-- no query so far differs
abbrev pub invariant-loop-query : goal.invariant-loop-query
invariant-loop-query g l =
    let difference = query_difference g.P.Value.PartialEq.eq g.PW.Value.PartialEq.eq (params_in l.self) in
    (k : ℕ) → k < l.query → difference (opening_in l.first) (query_in l.queries k) ≡ None
