use Rattle.std.proofs.Common.{◌≡◌, ◌<◌, ℕ, None, length}
use Rattle.p3_merkle_verifier.specs.Inner.Checks.{params_in}
use Rattle.p3_merkle_verifier.specs.Inner.QueryPairs.{first_place, query_difference, query_in}
use Rattle.p3_merkle_verifier.proofs.pruned_extraction.Checker+P+PW+H+C+array+N+array+D+PW+Value+N+D.differing_pair.Given as goal

-- no query so far differs from one of the second list
abbrev pub invariant-loop-query : goal.invariant-loop-query
invariant-loop-query g l =
    let difference = query_difference g.P.Value.PartialEq.eq g.PW.Value.PartialEq.eq (params_in l.self) in
    (k : ℕ) → k < l.query →
    first_place (λ b. difference (query_in l.first k) (query_in l.second b)) (length l.second.paths.items) ≡ None
