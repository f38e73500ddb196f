-- No query so far differs, so the first that does is the definition's.
use borrow.Author.Count.{below_more}
use Rattle.std.proofs.Common.{◌≡◌, None, arith, length, sym}
use Rattle.p3_merkle_verifier.specs.Inner.Checks.{opening_in, params_in}
use Rattle.p3_merkle_verifier.specs.Inner.QueryPairs.{query_difference, query_in}
use Rattle.p3_merkle_verifier.proofs.PlaceFacts.{no_place, place_found}
use Rattle.p3_merkle_verifier.proofs.QueryFacts.{shows_query}
use Rattle.p3_merkle_verifier.proofs.pruned_extraction.Checker+P+PW+H+C+array+N+array+D+PW+Value+N+D.differing_query.Goals as goal

pub loop-query-preserved : goal.loop-query-preserved
loop-query-preserved g c =
    let difference = query_difference g.P.Value.PartialEq.eq g.PW.Value.PartialEq.eq (params_in c.args.self.now)
    (opening_in c.args.first) in
    let shown = shows_query _ _ (params_in c.args.self.now) c.in_ok-found.found (opening_in c.args.first)
    c.opening.ensures c.in_ok-found.ensures.found in
    below_more (λ k. difference (query_in c.args.queries.now k) ≡ None) c.loop-query.query c.loop-query.invariant
    (sym (rw c.in_default.is at shown))

pub returns-then-agrees_with_all : goal.returns-then-agrees_with_all
returns-then-agrees_with_all g c =
    no_place _ (length c.args.queries.now.paths.items) (c.agrees_with_all.ensures c.if-agrees_with_all.true)

pub returns-in-Some : goal.returns-in-Some
returns-in-Some g c =
    let shown = shows_query _ _ (params_in c.args.self.now) c.in_ok-found.found (opening_in c.args.first)
    c.opening.ensures c.in_ok-found.ensures.found in
    place_found _ (length c.args.queries.now.paths.items) c.loop-query.query
    (omega (arith, c.args.queries.now.paths.ok.0)) c.loop-query.invariant (rw c.in-Some.is at shown)

pub returns : goal.returns
returns g c =
    no_place _ (length c.args.queries.now.paths.items)
    (λ k below. c.loop-query.invariant k (omega (arith, c.args.queries.now.paths.ok.0)))
